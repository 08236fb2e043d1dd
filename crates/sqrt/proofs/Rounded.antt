-- `rounded` at m * 4 ^ h with an m of 53 or 54 digits: its pattern is the exponent's field h - 26 and the root of m * 2 ^ 54, halved and rounded.
-- Assumes nothing.
use mathlib.Core.Path.{◌≡◌, sym, ap, ◌∙◌, subst}
use Prim.Native.Nat.{ℕ, suc, ◌+◌, ◌-◌, ◌*◌, ◌/◌, ◌^◌, ◌≤◌, ◌<◌}
use native.Mathlib.Nat.{le_trans, le_of_eq, lt_of_lt_of_le, lt_of_le_of_lt, mul_assoc, mul-le-mul_right, mul-lt-mul_of_pos_right, mul-div_cancel, mul-le-mul}
use native.Mathlib.Omega.{arith}
use mathlib.Core.Bool.{false, not}
use lib.Dec.{T, ltb, lit<}
use lib.Pow.{pow-add, pow_mono, pow-lt}
use lib.Ieee.{Float, inf, binary64, size, odd, units, fits, is_nan, to_bits}
use lib.Ieee.Fits.{odd-fits, cond-fits, inf-fits}
use lib.Ieee.Exact.{HasValue, units_val}
use Rattle.sqrt.specs.Root.{root}
use Rattle.sqrt.specs.Sqrt.{rounded}
use Rattle.sqrt.specs.Inner.Steps.{Rooted}
use Rattle.sqrt.proofs.Roots.{root_is, sq_lt_back, sq_pow, four_pos}
use Rattle.sqrt.proofs.Shift.{size_exact}
use Rattle.rounding.proofs.Numbers.{value_no_nan}
use Rattle.sqrt.proofs.Patterns.{to_bits_value, bits_of_lem}

-- the root of what lies between two squares
root_lt : (n b : ℕ) → n < b * b → root n < b
root_lt n b h = sq_lt_back (root n) b (lt_of_le_of_lt (root_is n).0 h)

root_ge : (n b : ℕ) → b * b ≤ n → b ≤ root n
root_ge n b h = drop b (root n) (sq_lt_back b (root n + 1) (lt_of_le_of_lt h (root_is n).1))
  where
    drop : (a c : ℕ) → a < c + 1 → a ≤ c
    drop a c g = omega arith

module _ (m : ℕ) (lo : 2 ^ 52 ≤ m) (hi : m < 2 ^ 54) where
  root_size : (h : ℕ) → size (root (m * 4 ^ h)) ≡ 27 + h
  root_size h =
      let n = m * 4 ^ h in
      let P : 0 < 4 ^ h = four_pos h in
      let a : 2 ^ 26 * 2 ^ h ≤ root n = root_ge n (2 ^ 26 * 2 ^ h) (le_trans (le_of_eq (sq_pow (2 ^ 26) h)) (mul-le-mul_right (4 ^ h) lo)) in
      let b : root n < 2 ^ 27 * 2 ^ h = root_lt n (2 ^ 27 * 2 ^ h) (lt_of_lt_of_le (mul-lt-mul_of_pos_right hi P) (le_of_eq (sym (sq_pow (2 ^ 27) h)))) in
      size_exact (26 + h) (root n) (le_trans (le_of_eq (pow-add 2 26 h)) a)
      (lt_of_lt_of_le b (le_of_eq (sym (pow-add 2 27 h) ∙ ap (λ (x : ℕ). 2 ^ x) (one_up h)))) ∙ sym (one_up h)
    where
      one_up : (h : ℕ) → 27 + h ≡ suc (26 + h)
      one_up h = omega arith

  -- the digits that the result keeps
  pub root_54 : (2 ^ 53 ≤ root (m * 2 ^ 54)) × (root (m * 2 ^ 54) < 2 ^ 54)
  root_54 = (root_ge (m * 2 ^ 54) (2 ^ 53) (omega arith), root_lt (m * 2 ^ 54) (2 ^ 54) (omega arith))

  pub four_kept : (k : ℕ) → 4 * (m * 4 ^ (26 + k)) ≡ m * 2 ^ 54 * 4 ^ k
  four_kept k =
      ap (λ (x : ℕ). 4 * (m * x)) (pow-add 4 26 k) ∙ ap (λ (x : ℕ). 4 * x) (sym (mul_assoc m (4 ^ 26) (4 ^ k)))
      ∙ sym (mul_assoc 4 (m * 4 ^ 26) (4 ^ k)) ∙ ap (λ (x : ℕ). x * 4 ^ k) (four_m m)
    where
      four_m : (m : ℕ) → 4 * (m * 4 ^ 26) ≡ m * 2 ^ 54
      four_m m = omega arith

  kept : (k : ℕ) → 4 * (m * 4 ^ (26 + k)) / 4 ^ k ≡ m * 2 ^ 54
  kept k =
      let P : 0 < 4 ^ k = four_pos k in
      ap (λ (x : ℕ). x / 4 ^ k) (four_kept k) ∙ mul-div_cancel (m * 2 ^ 54) P

  pub rounded_is : (k : ℕ) → rounded binary64 (m * 4 ^ (26 + k)) ≡ units binary64 false ((root (m * 2 ^ 54) + 1) / 2) k
  unfolding rounded
  rounded_is k =
      ap (λ (z : ℕ). units binary64 false ((root (4 * (m * 4 ^ (26 + k)) / 4 ^ (z - 53)) + 1) / 2) (z - 53)) (root_size (26 + k))
      ∙ ap (λ (z : ℕ). units binary64 false ((root (4 * (m * 4 ^ (26 + k)) / 4 ^ z) + 1) / 2) z) (drop_53 k)
      ∙ ap (λ (z : ℕ). units binary64 false ((root z + 1) / 2) k) (kept k)
    where
      drop_53 : (k : ℕ) → 27 + (26 + k) - 53 ≡ k
      drop_53 k = omega arith

  pub sig_in : (2 ^ 52 ≤ (root (m * 2 ^ 54) + 1) / 2) × ((root (m * 2 ^ 54) + 1) / 2 ≤ 2 ^ 53)
  sig_in = omega (arith, root_54)

-- ---- together

units_fits : (q k : ℕ) → q ≤ 2 ^ 53 → q * 2 ^ k < 2 ^ 2098 → T (fits binary64 (units binary64 false q k))
unfolding units
units_fits q k h l =
    cond-fits binary64 (ltb (q * 2 ^ k) (2 ^ 2098)) (odd 54 false q k 1074) (inf false)
    (odd-fits binary64 54 false q k (lt_of_le_of_lt h (lit< tt)) h l) (inf-fits binary64 false)

pub below_top : (q k : ℕ) → q ≤ 2 ^ 53 → k ≤ 2000 → q * 2 ^ k < 2 ^ 2098
below_top q k h l = lt_of_le_of_lt (mul-le-mul h (pow_mono l)) (subst (λ (x : ℕ). x < 2 ^ 2098) (pow-add 2 53 2000) (pow-lt {i = 2053} {j = 2098} (lit< tt)))

rooted_at : (m k : ℕ) → 2 ^ 52 ≤ m → m < 2 ^ 54 → k ≤ 2000 → Rooted (m * 4 ^ (26 + k)) (k * 2 ^ 52 + (root (m * 2 ^ 54) + 1) / 2)
rooted_at m k lo hi l =
    let q = (root (m * 2 ^ 54) + 1) / 2 in
    let s = sig_in m lo hi in
    let t : q * 2 ^ k < 2 ^ 2098 = below_top q k s.1 l in
    let e : rounded binary64 (m * 4 ^ (26 + k)) ≡ units binary64 false q k = rounded_is m lo hi k in
    let v : HasValue (units binary64 false q k) false (q * 2 ^ k) (2 ^ 1074) = units_val binary64 false q k t in
    record {
      is = sym (bits_of_lem q k s.0 s.1) ∙ sym (to_bits_value binary64 (units binary64 false q k) (q * 2 ^ k) v) ∙ ap (to_bits binary64) (sym e);
      held = subst (λ (x : Float). T (fits binary64 x)) (sym e) (units_fits q k s.1 t);
      no_nan = subst (λ (x : Float). T (not (is_nan x))) (sym e) (value_no_nan (units binary64 false q k) false (q * 2 ^ k) (2 ^ 1074) v);
    }

pub rooted : (m h : ℕ) → 2 ^ 52 ≤ m → m < 2 ^ 54 → 26 ≤ h → h ≤ 2000 → Rooted (m * 4 ^ h) ((h - 26) * 2 ^ 52 + (root (m * 2 ^ 54) + 1) / 2)
rooted m h lo hi a b =
    let e : 26 + (h - 26) ≡ h = omega arith in
    subst (λ (x : ℕ). Rooted (m * 4 ^ x) ((h - 26) * 2 ^ 52 + (root (m * 2 ^ 54) + 1) / 2)) e (rooted_at m (h - 26) lo hi (omega arith))
