-- The fraction 1 + f: a significand of 53 digits with the exponent's field of a number near 1 is the significand over a power of two, exactly. Assumes nothing.
use mathlib.Core.Path.{◌≡◌, refl, sym, ap, ◌∙◌, subst}
use Prim.Native.Nat.{ℕ, ◌+◌, ◌*◌, ◌^◌, ◌≤◌, ◌<◌}
use native.Mathlib.Nat.{add_comm, le_of_lt, lt_of_le_of_lt, mul_assoc, mul-le-mul}
use native.Mathlib.Omega.{arith}
use mathlib.Core.Bool.{Bool, false, not}
use lib.Dec.{T}
use lib.Pow.{pow-add, pow_pos, pow_mono, pow-lt}
use lib.Ieee.{Float, binary64, round, of_bits, nan_bits, is_nan}
use lib.Ieee.Bits.{of_bits-to_bits, nan_bits_is}
use lib.Ieee.Exact.{HasValue, round_exact}
use lib.Ieee.Fits.{round-fits}
use lib.Ieee.Scale.{round_same}
use Rattle.rounding.proofs.Numbers.{value_no_nan}
use Rattle.sqrt.proofs.Patterns.{to_bits_value, bits_of_lem}

-- a number of 53 digits with such a field is far below the largest double
pub small : (q k : ℕ) → q < 2 ^ 53 → k ≤ 2000 → q * 2 ^ k < 2 ^ 2098
small q k hi few =
    lt_of_le_of_lt (mul-le-mul (le_of_lt hi) (pow_mono few)) (subst (λ (x : ℕ). x < 2 ^ 2098) (pow-add 2 53 2000) (pow-lt {i = 2053} {j = 2098} (omega arith)))

-- q / 2 ^ j, for a q of 53 digits and a field k with k + j = 1074
module _ (q k j : ℕ) (lo : 2 ^ 52 ≤ q) (hi : q < 2 ^ 53) (few : k ≤ 2000) (e : k + j ≡ 1074) where
  -- in smallest doubles
  counted : round binary64 false q (2 ^ j) ≡ round binary64 false (q * 2 ^ k) (2 ^ 1074)
  counted =
      round_same binary64 false q (2 ^ j) (q * 2 ^ k) (2 ^ 1074) (pow_pos j) (pow_pos 1074)
      (ap (λ (x : ℕ). q * x) (ap (λ (x : ℕ). 2 ^ x) (sym e) ∙ pow-add 2 k j) ∙ sym (mul_assoc q (2 ^ k) (2 ^ j)))

  value : HasValue (round binary64 false q (2 ^ j)) false (q * 2 ^ k) (2 ^ 1074)
  value =
      subst (λ (v : Float). HasValue v false (q * 2 ^ k) (2 ^ 1074)) (sym counted)
      (round_exact binary64 false (q * 2 ^ k) (2 ^ 1074) q k (pow_pos 1074) hi (small q k hi few) refl)

  -- the double with the digits of q and the field k, to which the leading one of q adds one
  pub fraction_is : of_bits binary64 (q + k * 2 ^ 52) ≡ round binary64 false q (2 ^ j)
  fraction_is =
      ap (of_bits binary64)
      (add_comm q (k * 2 ^ 52) ∙ sym (bits_of_lem q k lo (le_of_lt hi)) ∙ sym (to_bits_value binary64 (round binary64 false q (2 ^ j)) (q * 2 ^ k) value))
      ∙ of_bits-to_bits binary64 (round binary64 false q (2 ^ j)) (round-fits binary64 false q (2 ^ j))

  pub fraction_no_nan : T (not (nan_bits binary64 (q + k * 2 ^ 52)))
  fraction_no_nan =
      subst (λ (b : Bool). T (not b)) (sym (nan_bits_is binary64 (q + k * 2 ^ 52) ∙ ap is_nan fraction_is))
      (value_no_nan (round binary64 false q (2 ^ j)) false (q * 2 ^ k) (2 ^ 1074) value)
