-- `ln::positive` meets its contract: the number is its digits times 2 ^ (place - 52) smallest doubles. Assumes nothing.
use mathlib.Core.Path.{sym, ◌∙◌}
use Rattle.sqrt.specs.Inner.Steps.{units_of}
use Rattle.ln.proofs.Reduction.{reduced_is}
use Rattle.ln.proofs.positive.Goals as goal

pub returns : goal.returns
returns c =
    let s = c.of_pattern.result in
    let r = s.in_range in
    c.reduced.ensures ∙ sym (reduced_is (units_of c.args.bits) s.digits s.place r.0 r.1 c.of_pattern.ensures)
