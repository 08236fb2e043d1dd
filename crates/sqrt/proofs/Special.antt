-- `sqrt_of` by cases: what is its own root, what has none, and the root of a pattern between those of 0 and of the infinity. Assumes nothing.
use mathlib.Core.Path.{◌≡◌, refl, sym, ap, ◌∙◌, subst}
use mathlib.Core.Logic.{inl, inr}
use Prim.Native.Nat.{ℕ, zero, suc, ◌*◌, ◌/◌, ◌^◌, ◌<◌}
use native.Mathlib.Nat.{mul-div_cancel}
use mathlib.Core.Bool.{Bool, true, false, not, true≢false}
use lib.IntN.{ℤ}
use lib.Dec.{T}
use lib.Ieee.{Float, nan, inf, fin, Format, binary64, low, down, of_bits, nan_bits, is_nan, eq, lt}
use lib.Ieee.Bits.{of_bits-to_bits, nan_bits_is}
use lib.Ieee.Fits.{down_pos}
use lib.Ieee.Exact.{HasValue}
use Rattle.std.specs.Float.{float_is_finite}
use Rattle.sqrt.specs.Sqrt.{rounded, sqrt_of}
use Rattle.sqrt.specs.Inner.Steps.{Rooted, units_of}
use Rattle.sqrt.proofs.AboveZero.{naught, zero_only, negative_only, infinite_only, some_units}
use Rattle.sqrt.proofs.Patterns.{value_of, units_pos}

-- ---- "negative or not a number: not a number; negative zero and infinity: itself"

pub root_of_nan : (f : Format) → sqrt_of f nan ≡ nan
unfolding sqrt_of
root_of_nan f = refl

pub root_of_infinity : (f : Format) → sqrt_of f (inf false) ≡ inf false
unfolding sqrt_of
root_of_infinity f = refl

-- what is not finite and not below zero
pub root_of_infinite : (f : Format) (x : Float) → lt x naught ≡ false → float_is_finite x ≡ false → x ≡ sqrt_of f x
unfolding sqrt_of
root_of_infinite f x h k = elim (infinite_only x naught refl h k) [ inl e ↦ e ∙ sym (ap (sqrt_of f) e) | inr e ↦ e ∙ sym (ap (sqrt_of f) e) ]

pub root_of_zero : (f : Format) (s : Bool) (e : ℤ) → sqrt_of f (fin s zero e) ≡ fin s zero e
unfolding sqrt_of
root_of_zero f s e = refl

-- either zero
pub root_of_naught : (f : Format) (x : Float) → eq x naught ≡ true → x ≡ sqrt_of f x
root_of_naught f x h = let z = zero_only x h in z.2 ∙ sym (ap (sqrt_of f) z.2 ∙ root_of_zero f z.0 z.1)

-- below zero
pub root_of_negative : (f : Format) (x : Float) → lt x naught ≡ true → sqrt_of f x ≡ nan
unfolding sqrt_of
root_of_negative f x h = elim (negative_only x h) [ inl e ↦ ap (sqrt_of f) e | inr w ↦ ap (sqrt_of f) w.2 ]

-- f64::NAN
pub nan_is : of_bits binary64 0x7ff8_0000_0000_0000 ≡ nan
unfolding of_bits
nan_is = refl

-- ---- a finite number above zero

-- by the number of smallest values that it is
pub root_of_units : (f : Format) (x : Float) (n : ℕ) → 0 < n → HasValue x false n (2 ^ low f) → sqrt_of f x ≡ rounded f (n * 2 ^ low f)
unfolding sqrt_of
root_of_units f nan n h v = elim v [ ]
root_of_units f (inf _) n h v = elim v [ ]
root_of_units f (fin true m e) n h v = absurd (true≢false v.0)
root_of_units f (fin false zero e) n h v = absurd (some_units e n (2 ^ low f) h v.1)
root_of_units f (fin false (suc m) e) n h v = ap (λ (z : ℕ). rounded f (z * 2 ^ low f)) (ap (λ (z : ℕ). z / down e) v.1 ∙ mul-div_cancel n (down_pos e))

-- by its pattern
pub root_of_pattern : (b : ℕ) → 0 < b → b < 0x7ff0_0000_0000_0000 → sqrt_of binary64 (of_bits binary64 b) ≡ rounded binary64 (units_of b * 2 ^ 1074)
root_of_pattern b h l = root_of_units binary64 (of_bits binary64 b) (units_of b) (units_pos b h) (value_of b l)

-- the pattern that was made is no NaN's, and is read as the root
pub made : (n r : ℕ) → Rooted n r → of_bits binary64 r ≡ rounded binary64 n
made n r h = ap (of_bits binary64) h.is ∙ of_bits-to_bits binary64 (rounded binary64 n) h.held

pub made_no_nan : (n r : ℕ) → Rooted n r → T (not (nan_bits binary64 r))
made_no_nan n r h = subst (λ (b : Bool). T (not b)) (sym (nan_bits_is binary64 r ∙ ap is_nan (made n r h))) h.no_nan
