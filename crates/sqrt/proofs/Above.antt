-- The root of a double x is not below a double w with w² ≤ x: were it, the exact root would lie below the midpoint of the two and so below w.
-- Where w * w, rounded, is below x, the exact w² is not above x, for rounding never passes x. Assumes nothing.
use mathlib.Core.Path.{◌≡◌, refl, sym, ap, subst}
use Prim.Native.Nat.{ℕ, zero, suc, ◌+◌, ◌*◌, ◌^◌, ◌≤◌, ◌<◌}
use native.Mathlib.Nat.{le_trans, le_of_eq, le_of_lt, lt_of_lt_of_le, lt_of_not-le, lt_irrefl, le_of_suc-le-suc, mul-le-mul}
use native.Mathlib.Nat.{mul-le-mul_left, mul-le-mul_right, le_of_mul-le-mul_right, mul-pos}
use native.Mathlib.Omega.{arith}
use mathlib.Core.Bool.{true, false}
use lib.Dec.{T}
use lib.Pow.{pow_pos}
use lib.Ieee.{Float, nan, inf, fin, binary64, up, down, to_bits, of_bits, fits, mul, lt, le}
use lib.Ieee.Bits.{of_bits-to_bits}
use lib.Ieee.Exact.{HasValue}
use lib.Ieee.Order.{le_of_values}
use lib.Ieee.Positive.{num, den, positive, den_pos, own_value, value→cross}
use Rattle.rounding.proofs.FromZero.{nonneg, nonneg_of_positive, unsigned_of_nonneg, mul_unsigned}
use Rattle.rounding.proofs.Compare.{lt_not_le}
use Rattle.rounding.proofs.Operations.{mul_is}
use Rattle.rounding.proofs.Monotone.{round_from}
use Rattle.sqrt.specs.Sqrt.{sqrt_of}
use Rattle.sqrt.specs.Inner.Steps.{units_of}
use Rattle.sqrt.proofs.AboveZero.{finite_pattern}
use Rattle.sqrt.proofs.CorrectRounding.{Nearer, correctly_rounded}
use Rattle.sqrt.proofs.Patterns.{value_of}
use Rattle.sqrt.proofs.Roots.{sq_dbl}

-- what is nearer to √n than a number of at most √n is not below it
not_under : (n r a : ℕ) → Nearer n r a → a * a ≤ n → a ≤ r
not_under n r a h k =
    le_of_suc-le-suc (lt_of_not-le (λ (g : r < a).
    let s : r + a ≤ 2 * a = omega arith in
    lt_irrefl (4 * n) (lt_of_lt_of_le (h.0 g) (le_trans (mul-le-mul s s) (le_trans (le_of_eq (sq_dbl a)) (mul-le-mul_left 4 k))))))

-- the number of smallest doubles that a double is
units_of_lem : (w : Float) → T (nonneg w) → T (fits binary64 w) → (c : ℕ) × HasValue w false (units_of c) (2 ^ 1074)
units_of_lem nan p h = absurd p
units_of_lem (inf s) p h = absurd p
units_of_lem (fin true m e) p h = absurd p
units_of_lem (fin false zero e) p h = (0, (refl, none (up e) (2 ^ 1074) (down e)))
  where
    none : (a b c : ℕ) → 0 * a * b ≡ 0 * c
    none a b c = omega arith
units_of_lem (fin false (suc m) e) p h =
    let w = fin false (suc m) e in
    let b = finite_pattern m e h in (
      to_bits binary64 w,
      subst (λ (v : Float). HasValue v false (units_of (to_bits binary64 w)) (2 ^ 1074)) (of_bits-to_bits binary64 w h)
          (value_of (to_bits binary64 w) b.1),
    )

pub root_above : (x w : Float) → T (fits binary64 x) → T (positive x) → T (fits binary64 w) → T (nonneg w) →
    num w * num w * den x ≤ num x * (den w * den w) → T (le w (sqrt_of binary64 x))
root_above nan w h p k q l = absurd p
root_above (inf s) w h p k q l = absurd p
root_above (fin true m e) w h p k q l = absurd p
root_above (fin false zero e) w h p k q l = absurd p
root_above (fin false (suc m) e) w h p k q l =
    let x = fin false (suc m) e in
    let b = to_bits binary64 x in
    let i = finite_pattern m e h in
    let o : of_bits binary64 b ≡ x = of_bits-to_bits binary64 x h in
    let r = correctly_rounded b i.0 i.1 in
    let u = units_of_lem w q k in
    let v : HasValue x false (units_of b) (2 ^ 1074) = subst (λ (z : Float). HasValue z false (units_of b) (2 ^ 1074)) o (value_of b i.1) in
    let s : units_of u.0 * units_of u.0 ≤ units_of b * 2 ^ 1074 =
    squares (num x) (den x) (units_of b) (num w) (den w) (units_of u.0) (2 ^ 1074) (den_pos x) (den_pos w)
    (value→cross x (units_of b) (2 ^ 1074) v) (value→cross w (units_of u.0) (2 ^ 1074) u.1) l in
    subst (λ (z : Float). T (le w (sqrt_of binary64 z))) o
    (le_of_values w (sqrt_of binary64 (of_bits binary64 b)) (units_of u.0) (2 ^ 1074) r.0 (2 ^ 1074) (pow_pos 1074) (pow_pos 1074) u.1 r.1
    (mul-le-mul_right (2 ^ 1074) (not_under (units_of b * 2 ^ 1074) r.0 (units_of u.0) (r.2 u.0) s)))
  where
    squares : (n d u m c a t : ℕ) → 0 < d → 0 < c → n * t ≡ u * d → m * t ≡ a * c → m * m * d ≤ n * (c * c) → a * a ≤ u * t
    squares n d u m c a t D C e f l =
        le_of_mul-le-mul_right
        (le_trans (le_of_eq (left (ap (λ (z : ℕ). z * z) f))) (le_trans (mul-le-mul_right (t * t) l) (le_of_eq (right (ap (λ (z : ℕ). z * (t * (c * c))) e)))))
        (mul-pos D (mul-pos C C))
      where
        left : m * t * (m * t) ≡ a * c * (a * c) → a * a * (d * (c * c)) ≡ m * m * d * (t * t)
        left f = omega (arith, ap (λ (z : ℕ). z * d) f)

        right : n * t * (t * (c * c)) ≡ u * d * (t * (c * c)) → n * (c * c) * (t * t) ≡ u * t * (d * (c * c))
        right e = omega arith

-- by the test that code can make, of w * w rounded
pub root_above_test : (x w : Float) → T (fits binary64 x) → T (positive x) → T (fits binary64 w) → T (nonneg w) → lt (mul binary64 w w) x ≡ true →
    T (le w (sqrt_of binary64 x))
root_above_test x w h p k q t =
    root_above x w h p k q (le_of_suc-le-suc (lt_of_not-le (λ (g : num x * (den w * den w) < num w * num w * den x).
    lt_not_le x (mul binary64 w w) (nonneg_of_positive x p) (mul_unsigned binary64 w w (unsigned_of_nonneg w q) (unsigned_of_nonneg w q)) t
    (subst (λ (z : Float). T (le x z)) (sym (mul_is binary64 w w q q))
    (round_from binary64 (num w * num w) (den w * den w) (num x) (den x) x (mul-pos (den_pos w) (den_pos w)) (den_pos x) h (own_value x p) (le_of_lt g))))))
