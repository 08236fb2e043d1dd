-- `ln_of` by cases: "minus infinity at 0 and not a number below 0", and above 0 by the number of smallest doubles. Assumes nothing.
use mathlib.Core.Path.{◌≡◌, refl, sym, ap, ◌∙◌}
use mathlib.Core.Logic.{inl, inr}
use Prim.Native.Nat.{ℕ, zero, suc, ◌/◌, ◌^◌, ◌<◌}
use native.Mathlib.Nat.{mul-div_cancel}
use mathlib.Core.Bool.{Bool, true, false, true≢false}
use lib.IntN.{ℤ}
use lib.Ieee.{Float, nan, inf, fin, binary64, down, of_bits, eq, lt}
use lib.Ieee.Fits.{down_pos}
use lib.Ieee.Exact.{HasValue}
use Rattle.std.specs.Float.{float_is_finite}
use Rattle.sqrt.specs.Inner.Steps.{units_of}
use Rattle.sqrt.proofs.AboveZero.{naught, zero_only, negative_only, infinite_only, some_units}
use Rattle.sqrt.proofs.Patterns.{value_of, units_pos}
use Rattle.ln.specs.Ln.{ln_units, ln_of}

-- what is not finite and not below zero
pub ln_of_infinite : (x : Float) → lt x naught ≡ false → float_is_finite x ≡ false → x ≡ ln_of x
unfolding ln_of
ln_of_infinite x h k = elim (infinite_only x naught refl h k) [ inl e ↦ e ∙ sym (ap ln_of e) | inr e ↦ e ∙ sym (ap ln_of e) ]

pub ln_of_zero : (s : Bool) (e : ℤ) → ln_of (fin s zero e) ≡ inf true
unfolding ln_of
ln_of_zero s e = refl

-- either zero
pub ln_of_naught : (x : Float) → eq x naught ≡ true → ln_of x ≡ inf true
ln_of_naught x h = let z = zero_only x h in ap ln_of z.2 ∙ ln_of_zero z.0 z.1

-- below zero
pub ln_of_negative : (x : Float) → lt x naught ≡ true → ln_of x ≡ nan
unfolding ln_of
ln_of_negative x h = elim (negative_only x h) [ inl e ↦ ap ln_of e | inr w ↦ ap ln_of w.2 ]

-- finite and above zero
ln_of_units : (x : Float) (n : ℕ) → 0 < n → HasValue x false n (2 ^ 1074) → ln_of x ≡ ln_units n
unfolding ln_of
ln_of_units nan n h v = elim v [ ]
ln_of_units (inf _) n h v = elim v [ ]
ln_of_units (fin true m e) n h v = absurd (true≢false v.0)
ln_of_units (fin false zero e) n h v = absurd (some_units e n (2 ^ 1074) h v.1)
ln_of_units (fin false (suc m) e) n h v = ap ln_units (ap (λ (z : ℕ). z / down e) v.1 ∙ mul-div_cancel n (down_pos e))

pub ln_of_pattern : (b : ℕ) → 0 < b → b < 0x7ff0_0000_0000_0000 → ln_of (of_bits binary64 b) ≡ ln_units (units_of b)
ln_of_pattern b h l = ln_of_units (of_bits binary64 b) (units_of b) (units_pos b h) (value_of b l)
