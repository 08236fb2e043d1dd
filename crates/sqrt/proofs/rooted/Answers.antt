-- `sqrt::rooted` meets its contract. The number q * 2 ^ e is m * 4 ^ (e / 2), where m is q, or 2 * q where e is odd; its root is 2 ^ (e / 2 - 26) times half of
-- the root of m * 2 ^ 54, whose 54 digits the rounding of one digit makes 53. Assumes nothing.
use mathlib.Core.Path.{sym, subst}
use Prim.Native.Nat.{ℕ, ◌+◌, ◌-◌, ◌*◌, ◌/◌, ◌%◌, ◌^◌}
use native.Mathlib.Omega.{arith}
use Rattle.sqrt.specs.Inner.Steps.{Rooted}
use Rattle.sqrt.proofs.Powers.{one_or_two, split_pow}
use Rattle.sqrt.proofs.Rounded.{sig_in, rooted}
use Rattle.sqrt.proofs.rooted.Goals as goal

pub overflow_mul-q : goal.overflow_mul-q
overflow_mul-q c = omega (arith, one_or_two c.args.s.digits (c.args.s.place + 1022))

pub nearest-requires : goal.nearest-requires
nearest-requires c = omega (arith, one_or_two c.args.s.digits (c.args.s.place + 1022))

pub overflow_add-result : goal.overflow_add-result
overflow_add-result c =
    let q = c.args.s.digits in
    let e = c.args.s.place + 1022 in
    let w = one_or_two q e in
    omega (arith, c.nearest.ensures, sig_in (q * (1 + e % 2)) (omega arith) (omega arith))

pub returns : goal.returns
returns c =
    let q = c.args.s.digits in
    let e = c.args.s.place + 1022 in
    let m = q * (1 + e % 2) in
    let h = e / 2 in
    let w = one_or_two q e in
    subst (λ (n : ℕ). Rooted n ((h - 26) * 2 ^ 52 + c.nearest.result)) (split_pow q e)
    (subst (λ (x : ℕ). Rooted (m * 4 ^ h) ((h - 26) * 2 ^ 52 + x)) (sym c.nearest.ensures)
    (rooted m h (omega arith) (omega arith) (omega arith) (omega arith)))
