-- The reported entropy of a probability: a double, exactly its units over 2 ^ 24, from 0 to 8 and no NaN, at most i for a p of 2 ^ -i at least, i at 2 ^ -i,
-- and negative zero where it is 0. Assumes nothing.
use mathlib.Core.Path.{◌≡◌, refl, sym, ap, ◌∙◌, subst}
use Prim.Native.Nat.{ℕ, zero, suc, ◌*◌, ◌^◌, ◌≤◌, ◌<◌}
use native.Mathlib.Nat.{le_trans, le_of_eq, lt_of_le_of_lt, mul-one, zero-mul, mul-pos, eq_of_mul-eq-mul_right, zero-lt-suc}
use native.Mathlib.Omega.{arith}
use mathlib.Core.Bool.{Bool, true, false}
use borrow.Author.Tests.{ne_eqb}
use lib.IntN.{pos}
use lib.Dec.{T, eqb, lit<}
use lib.Ieee.{Float, nan, inf, fin, binary64, up, down, is_nan, fits, lt, le}
use lib.Ieee.Bits.{is_false}
use lib.Ieee.Exact.{HasValue}
use lib.Ieee.Fits.{round-fits}
use lib.Ieee.Order.{le_of_values}
use lib.Ieee.Positive.{den, num}
use Rattle.rounding.proofs.Order.{le_of_not_lt}
use Rattle.rounding.proofs.Numbers.{value_no_nan}
use Rattle.rounding.proofs.FromZero.{zero as +0, nonneg, nonneg_of_value, zero_le_nonneg}
use Rattle.entropy.specs.Entropy.{units, bits_of, entropy_units, entropy_of}
use Rattle.entropy.specs.MinEntropy.{Probability}
use Rattle.entropy.proofs.Doublings.{from_least}
use Rattle.entropy.proofs.ReportedValue.{minus_zero, bits_of_none, reported_value}
use Rattle.entropy.proofs.PowersOfTwo.{exact_at_power, at_most_bits, at_most_eight}

units_pos : 0 < units
unfolding units
units_pos = lit< tt

few_units_lem : (m : ℕ) → m ≤ 8 * units → m < 2 ^ 53
unfolding units
few_units_lem m h = lt_of_le_of_lt h (lit< tt)

-- ---- a double, of any p
pub figure_fits : (p : Float) → T (fits binary64 (entropy_of p))
unfolding entropy_of bits_of
figure_fits p = round-fits binary64 (eqb (entropy_units p) 0) (entropy_units p) units

-- ---- exactly m / 2 ^ 24
pub entropy_value : (p : Float) → Probability p → HasValue (entropy_of p) (eqb (entropy_units p) 0) (entropy_units p) units
unfolding entropy_of
entropy_value p r = reported_value (entropy_units p) (few_units_lem (entropy_units p) (at_most_eight p r))

pub entropy_zero : (p : Float) → entropy_units p ≡ 0 → entropy_of p ≡ minus_zero
unfolding entropy_of
entropy_zero p e = ap bits_of e ∙ bits_of_none

-- ---- -0 lies at or below any value that has no minus sign, and at or above 0
minus_zero_below : (y : Float) → T (nonneg y) → T (le minus_zero y)
unfolding is_nan lt
minus_zero_below nan q = absurd q
minus_zero_below (inf t) q = absurd q
minus_zero_below (fin true n d) q = absurd q
minus_zero_below (fin false n d) q = le_of_not_lt minus_zero (fin false n d) tt tt refl

zero_below_minus : T (le +0 minus_zero)
unfolding le
zero_below_minus = tt

-- ---- the range
-- m units, as a value with the sign of that many, from 0 to y where m is at most y's units
module _ (x y : Float) (m i : ℕ) (w : HasValue y false i 1) where
  to_value : HasValue x (eqb m 0) m units → m ≤ i * units → (m ≡ 0 → x ≡ minus_zero) → T (le +0 x) × T (le x y) × (is_nan x ≡ false)
  unfolding is_nan
  to_value v h z = go m refl
    where
      none : (n : ℕ) → suc n ≡ 0 → ⊥
      none n e = omega arith

      go : (k : ℕ) → m ≡ k → T (le +0 x) × T (le x y) × (is_nan x ≡ false)
      go zero e = let q : x ≡ minus_zero = z e in rw q (zero_below_minus, minus_zero_below y (nonneg_of_value y i 1 w), refl)
      go (suc n) e =
          let s : eqb m 0 ≡ false = ne_eqb m 0 (λ (g : m ≡ 0). none n (sym e ∙ g)) in
          let u : HasValue x false m units = subst (λ (b : Bool). HasValue x b m units) s v in (
            zero_le_nonneg x (nonneg_of_value x m units u),
            le_of_values x y m units i 1 units_pos (zero-lt-suc 0) u w (le_trans (le_of_eq (mul-one m)) h),
            is_false (is_nan x) (value_no_nan x false m units u),
          )

module _ (p : Float) (r : Probability p) where
  -- at most y = i bits for a p of 2 ^ -i at least
  pub entropy_range : (i : ℕ) (y : Float) → HasValue y false i 1 → den p ≤ num p * 2 ^ i → T (le +0 (entropy_of p)) × T (le (entropy_of p) y) ×
      (is_nan (entropy_of p) ≡ false)
  entropy_range i y w h = to_value (entropy_of p) y (entropy_units p) i w (entropy_value p r) (at_most_bits p r i h) (entropy_zero p)

  -- from 0 to 8, and no NaN
  pub entropy_to_eight : T (le +0 (entropy_of p)) × T (le (entropy_of p) (fin false 1 (pos 3))) × (is_nan (entropy_of p) ≡ false)
  entropy_to_eight = entropy_range 8 (fin false 1 (pos 3)) (refl, refl) (from_least p r)

  -- i bits at p = 2 ^ -i, for an i above 0
  pub entropy_at_power : (i : ℕ) → 0 < i → num p * 2 ^ i ≡ den p → HasValue (entropy_of p) false i 1
  entropy_at_power i I e =
      let q : entropy_units p ≡ i * units = exact_at_power p r i e in
      let s : eqb (i * units) 0 ≡ false = ne_eqb (i * units) 0 (λ (g : i * units ≡ 0). gone (i * units) (mul-pos I units_pos) g) in
      over (entropy_of p)
      (subst (λ (b : Bool). HasValue (entropy_of p) b (i * units) units) s
      (subst (λ (k : ℕ). HasValue (entropy_of p) (eqb k 0) k units) q (entropy_value p r)))
    where
      gone : (n : ℕ) → 0 < n → n ≡ 0 → ⊥
      gone n h e = omega arith

      over : (x : Float) → HasValue x false (i * units) units → HasValue x false i 1
      over nan v = v
      over (inf t) v = v
      over (fin t m e) v = (v.0, eq_of_mul-eq-mul_right units units_pos (m * up e * 1) (i * down e) (turn (m * up e) (down e) units v.1))
        where
          turn : (n d c : ℕ) → n * c ≡ i * c * d → n * 1 * c ≡ i * d * c
          turn n d c h = omega arith

-- negative zero at p = 1
pub entropy_of_one : (p : Float) → Probability p → num p ≡ den p → entropy_of p ≡ minus_zero
entropy_of_one p r e = entropy_zero p (exact_at_power p r 0 (mul-one (num p) ∙ e) ∙ zero-mul units)
