-- Fractions m / 2 ^ i as doubles: a whole m below 2 ^ 53 is exact, and so is the quotient that the code forms. Assumes nothing.
use Rattle.std.proofs.Common.{◌≡◌, ℕ, suc, ◌*◌, ◌^◌, ◌<◌, ◌≤◌, false, T, pos, sym, refl, ap, ◌∙◌, le_trans, le_of_eq, lt_of_lt_of_le, mul-le-mul_right, zero-lt-suc, mul-le-mul_left, pow-suc, mul-one, arith, lit≤, pow_pos}
use lib.Ieee.{fin, binary64, round, of_int, div, le, fits}
use lib.Ieee.Fits.{round-fits}
use lib.Ieee.Exact.{HasValue}
use lib.Ieee.Order.{round_mono, le_of_values}
use lib.Ieee.Scale.{round_same}
use Rattle.rounding.proofs.FromZero.{nonneg_of_value, unsigned_of_nonneg}
use Rattle.rounding.proofs.Operations.{div_at}
use Rattle.rounding.proofs.Ranges.{whole_value}
use Rattle.power.proofs.Unit.{Unit, unit_of}
use Rattle.rounding.proofs.Exact.{held_whole, round_held}
use Rattle.rounding.specs.Doubles.{one}
use Rattle.zero_count.specs.ZeroCount.{fraction}

pub fraction_value : (i m : ℕ) → i ≤ 1074 → m < 2 ^ 53 → HasValue (fraction i m) false m (2 ^ i)
unfolding fraction
fraction_value i m l h =
    round_held binary64 m (2 ^ i) (pow_pos i) (held_whole binary64 m i h l)
    (lt_of_lt_of_le h
    (le_trans (lit≤ {m = 2 ^ 53} {n = 2 ^ 1024} tt) (le_trans (le_of_eq (sym (mul-one (2 ^ 1024)))) (mul-le-mul_left (2 ^ 1024) (pow_pos i)))))

pub fraction_fits : (i m : ℕ) → T (fits binary64 (fraction i m))
unfolding fraction
fraction_fits i m = round-fits binary64 false m (2 ^ i)

-- ---- the same fraction with one more place
pub fraction_double : (i m : ℕ) → fraction (suc i) (m * 2) ≡ fraction i m
unfolding fraction
fraction_double i m =
    round_same binary64 false (m * 2) (2 ^ suc i) m (2 ^ i) (pow_pos (suc i)) (pow_pos i) (turn (2 ^ i) ∙ ap (λ (z : ℕ). m * z) (sym (pow-suc 2 i)))
  where
    turn : (a : ℕ) → m * 2 * a ≡ m * (a * 2)
    turn a = omega arith

-- ---- m / 2 ^ 52, for an m of at most 2 ^ 52
few : (m : ℕ) → m ≤ 2 ^ 52 → m < 2 ^ 53
few m h = omega arith

module _ (m : ℕ) (h : m ≤ 2 ^ 52) where
  pub part_value : HasValue (fraction 52 m) false m (2 ^ 52)
  part_value = fraction_value 52 m (lit≤ tt) (few m h)

  -- as the code forms it
  pub part_quotient : div binary64 (of_int binary64 (pos m)) (fin false 1 (pos 52)) ≡ fraction 52 m
  unfolding fraction
  part_quotient =
      div_at binary64 (of_int binary64 (pos m)) (fin false 1 (pos 52)) m 1 (2 ^ 52) 1 (zero-lt-suc 0) (zero-lt-suc 0)
      (whole_value binary64 m (small m h)) (refl, refl) tt
      ∙ ap (λ (z : ℕ). round binary64 false z (2 ^ 52)) (mul-one m)
    where
      small : (m : ℕ) → m ≤ 2 ^ 52 → m ≤ 2 ^ 53
      small m h = omega arith

  pub part_unit : Unit (fraction 52 m)
  part_unit =
      unit_of (fraction 52 m) (unsigned_of_nonneg (fraction 52 m) (nonneg_of_value (fraction 52 m) m (2 ^ 52) part_value))
      (le_of_values (fraction 52 m) one m (2 ^ 52) 1 1 (pow_pos 52) (zero-lt-suc 0) part_value (refl, refl) (omega arith))

-- a larger m gives a larger fraction
pub part_keeps : (m k : ℕ) → m ≤ k → T (le (fraction 52 m) (fraction 52 k))
unfolding fraction
part_keeps m k h = round_mono binary64 m (2 ^ 52) k (2 ^ 52) (pow_pos 52) (pow_pos 52) (mul-le-mul_right (2 ^ 52) h)
