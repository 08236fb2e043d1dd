-- `zero_count::zero_count_bound` meets its contract: the digits found are the root's, and 1 less the root is as many parts of 2 ^ 52 as the root
-- leaves. Assumes nothing.
use Rattle.std.proofs.Common.{ℕ, ◌-◌, ◌^◌, sym, ap, ◌∙◌, arith}
use lib.Ieee.{of_bits}
use Rattle.zero_count.specs.ZeroCount.{fraction, zero_count_bound}
use Rattle.zero_count.proofs.Digits.{digits_below}
use Rattle.zero_count.proofs.Cases.{bound_of_none, bound_of_some}
use Rattle.zero_count.proofs.zero_count_bound.Goals as goal

pub returns-then-n-eq0 : goal.returns-then-n-eq0
unfolding of_bits
returns-then-n-eq0 c = sym bound_of_none ∙ ap zero_count_bound (sym c.if-n-eq0.true)

pub overflow_sub-narrow : goal.overflow_sub-narrow
overflow_sub-narrow c = omega (arith, c.narrow.ensures, digits_below 52 c.args.n)

pub returns : goal.returns
returns c =
    let n = c.args.n in
    c.part.ensures ∙ ap (λ (m : ℕ). fraction 52 (2 ^ 52 - m)) c.narrow.ensures
    ∙ sym (bound_of_some n c.if-n-eq0.false)
