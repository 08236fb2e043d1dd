-- `Significand::of_subnormal` meets its contract: shifted as `shift_of` says, the fraction has 53 digits. Assumes nothing.
use mathlib.Core.Path.{sym, ap, ◌∙◌}
use Prim.Native.Nat.{ℕ, ◌-◌, ◌*◌, ◌^◌}
use native.Mathlib.Omega.{arith}
use Rattle.sqrt.proofs.Shift.{shifted_fraction, shifted_word, low_digits}
use Rattle.sqrt.proofs.significand.Significand.of_subnormal.Goals as goal

pub overflow_shl-result : goal.overflow_shl-result
overflow_shl-result c = omega (arith, shifted_fraction c.args.fraction c.shift_of-shift.result c.requires.0 c.requires.1 c.shift_of-shift.ensures)

pub overflow_sub-result : goal.overflow_sub-result
overflow_sub-result c = omega (arith, shifted_fraction c.args.fraction c.shift_of-shift.result c.requires.0 c.requires.1 c.shift_of-shift.ensures)

pub invariant_of-result : goal.invariant_of-result
invariant_of-result c =
    let t = c.args.fraction in
    let s = c.shift_of-shift.result in
    let w = shifted_fraction t s c.requires.0 c.requires.1 c.shift_of-shift.ensures in
    let e = shifted_word t s w in
    record { in_range = omega arith }

pub returns : goal.returns
returns c =
    let t = c.args.fraction in
    let s = c.shift_of-shift.result in
    let w = shifted_fraction t s c.requires.0 c.requires.1 c.shift_of-shift.ensures in
    low_digits t s w.0 ∙ ap (λ (q : ℕ). q * 2 ^ (52 - s)) (sym (shifted_word t s w))
