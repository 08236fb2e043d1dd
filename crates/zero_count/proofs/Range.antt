-- The bound lies in 0..1, above 0, and is exactly 1 less the root's digits over 2 ^ 52. Assumes nothing.
use Rattle.std.proofs.Common.{◌≡◌, ℕ, ◌-◌, ◌*◌, ◌^◌, ◌<◌, ◌≤◌, false, T, sym, refl, subst, inl, inr, zero-lt-suc, eq-zero-or-pos, arith, lit≤, pow_pos}
use lib.Ieee.{Float, binary64, fits}
use lib.Ieee.Exact.{HasValue}
use lib.Ieee.Order.{le_of_values}
use lib.Ieee.Positive.{positive, positive_of_value}
use Rattle.rounding.proofs.FromZero.{zero as +0, nonneg_of_value, zero_le_nonneg}
use Rattle.rounding.proofs.Ranges.{Between}
use Rattle.rounding.specs.Doubles.{one}
use Rattle.zero_count.specs.ZeroCount.{root_digits, zero_count_bound}
use Rattle.zero_count.proofs.Fractions.{fraction_value, fraction_fits}
use Rattle.zero_count.proofs.Digits.{digits_below}
use Rattle.zero_count.proofs.Cases.{bound_of_none, bound_of_some}

above : (m w : ℕ) → m < w → 0 < w - m
above m w h = omega arith

-- ---- for n above 0
module _ (n : ℕ) (N : 0 < n) where
  some : n ≡ 0 → ⊥
  some e = omega arith

  -- 1 - m / 2 ^ 52
  pub bound_value : HasValue (zero_count_bound n) false (2 ^ 52 - root_digits 52 n) (2 ^ 52)
  bound_value =
      subst (λ (z : Float). HasValue z false (2 ^ 52 - root_digits 52 n) (2 ^ 52)) (sym (bound_of_some n some))
      (fraction_value 52 (2 ^ 52 - root_digits 52 n) (lit≤ tt) (few (root_digits 52 n)))
    where
      few : (m : ℕ) → 2 ^ 52 - m < 2 ^ 53
      few m = omega arith

  positive_some : T (positive (zero_count_bound n))
  positive_some = positive_of_value (zero_count_bound n) (2 ^ 52 - root_digits 52 n) (2 ^ 52) bound_value (above (root_digits 52 n) (2 ^ 52) (digits_below 52 n))

  range_some : Between +0 (zero_count_bound n) one
  range_some =
      let p = nonneg_of_value (zero_count_bound n) (2 ^ 52 - root_digits 52 n) (2 ^ 52) bound_value in
      record {
        finite = p;
        from = zero_le_nonneg (zero_count_bound n) p;
        to = le_of_values (zero_count_bound n) one (2 ^ 52 - root_digits 52 n) (2 ^ 52) 1 1 (pow_pos 52) (zero-lt-suc 0) bound_value (refl, refl)
            (less (2 ^ 52) (root_digits 52 n));
      }
    where
      less : (w m : ℕ) → (w - m) * 1 ≤ 1 * w
      less w m = omega arith

  fits_some : T (fits binary64 (zero_count_bound n))
  fits_some = subst (λ (z : Float). T (fits binary64 z)) (sym (bound_of_some n some)) (fraction_fits 52 (2 ^ 52 - root_digits 52 n))

-- ---- for every n
one_range : Between +0 one one
one_range = record {
  finite = tt;
  from = zero_le_nonneg one tt;
  to = le_of_values one one 1 1 1 1 (zero-lt-suc 0) (zero-lt-suc 0) (refl, refl) (refl, refl) (lit≤ tt);
}

one_fits : T (fits binary64 one)
unfolding fits
one_fits = tt

module _ (P : Float → Type 0) (none : P one) (some : (n : ℕ) → 0 < n → P (zero_count_bound n)) where
  every : (n : ℕ) → P (zero_count_bound n)
  every n = elim (eq-zero-or-pos n) [ inl e ↦ subst (λ (k : ℕ). P (zero_count_bound k)) (sym e) (subst P (sym bound_of_none) none) | inr p ↦ some n p ]

pub bound_range : (n : ℕ) → Between +0 (zero_count_bound n) one
bound_range = every (λ (x : Float). Between +0 x one) one_range range_some

pub bound_positive : (n : ℕ) → T (positive (zero_count_bound n))
bound_positive = every (λ (x : Float). T (positive x)) tt positive_some

pub bound_fits : (n : ℕ) → T (fits binary64 (zero_count_bound n))
bound_fits = every (λ (x : Float). T (fits binary64 x)) one_fits fits_some
