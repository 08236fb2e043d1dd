-- Ranges that hold whatever is rounded: c / n and 1 - p lie in 0..1, 1 / k for a k up to 2 ^ j is 2 ^ -j at least, a sum is not below its terms, a
-- product with a share is not above the other
-- factor, and the midpoint of a and b lies between them. Assumes nothing.
use mathlib.Core.Path.{◌≡◌, refl, sym, subst}
use Prim.Native.Nat.{ℕ, ◌+◌, ◌-◌, ◌*◌, ◌^◌, ◌≤◌, ◌<◌}
use native.Mathlib.Nat.{le_refl, le_trans, zero-lt-suc, mul-pos, mul-le-mul_right, mul-le-mul_left}
use native.Mathlib.Omega.{arith}
use mathlib.Core.Bool.{Bool, true, false, cond}
use lib.IntN.{pos}
use lib.Dec.{T}
use lib.Pow.{pow_pos}
use lib.Ieee.{Float, Format, binary32, binary64, prec, round, of_int, add, sub, mul, div, fits, lt, le}
use lib.Ieee.Exact.{HasValue}
use lib.Ieee.Order.{le_of_values}
use lib.Ieee.Back.{round_whole}
use lib.Ieee.Positive.{num, den, positive, den_pos, value_pos, own_value, positive_of_value}
use Rattle.rounding.proofs.FromZero.{zero as +0, one, nonneg, unsigned, nonneg_of_value, nonneg_of_positive, nonneg_below, value_of}
use Rattle.rounding.proofs.FromZero.{cross_of_le, le_of_cross, zero_le_nonneg}
use Rattle.rounding.proofs.Compare.{le_of_lt}
use Rattle.rounding.proofs.Operations.{add_is, sub_is, mul_is, div_is, div_at}
use Rattle.rounding.proofs.Monotone.{round_to, round_from, round_finite}

-- x is finite, has no minus sign, and lies from lo to hi
pub record Between (lo x hi : Float) : Type 0 where
  pub finite : T (nonneg x)
  pub from : T (le lo x)
  pub to : T (le x hi)

-- ---- whole numbers, as `n as f64` gives them
pub whole_value : (f : Format) (n : ℕ) → n ≤ 2 ^ prec f → HasValue (of_int f (pos n)) false n 1
unfolding of_int
whole_value f n h = round_whole f false n h

pub whole_positive : (f : Format) (n : ℕ) → n ≤ 2 ^ prec f → 0 < n → T (positive (of_int f (pos n)))
whole_positive f n h k = positive_of_value (of_int f (pos n)) n 1 (whole_value f n h) k

one_fits : (f : Format) → T (fits f one)
unfolding fits
one_fits binary32 = tt
one_fits binary64 = tt

-- ---- a quotient x / y for x ≤ y lies in 0..1
pub quotient_range : (f : Format) (x y : Float) → T (nonneg x) → T (positive y) → T (le x y) → Between +0 (div f x y) one
quotient_range f x y p q h =
    let C : 0 < num y * den x = mul-pos (value_pos y (num y) (den y) q (den_pos y) (own_value y q)) (den_pos x) in
    let l : num x * den y * 1 ≤ 1 * (num y * den x) = same (num x * den y) (num y * den x) (cross_of_le x y p (nonneg_of_positive y q) h) in
    let n : T (nonneg (round f false (num x * den y) (num y * den x))) =
    round_finite f (num x * den y) (num y * den x) 1 1 one C (zero-lt-suc 0) (one_fits f) (refl, refl) l in
    subst (λ (z : Float). Between +0 z one) (sym (div_is f x y p q)) (record {
      finite = n;
      from = zero_le_nonneg _ n;
      to = round_to f (num x * den y) (num y * den x) 1 1 one C (zero-lt-suc 0) (one_fits f) (refl, refl) l;
    })
  where
    same : (a b : ℕ) → a ≤ b → a * 1 ≤ 1 * b
    same a b h = omega arith

-- c of n: C / N
pub share_range : (f : Format) (c n : ℕ) → c ≤ n → 0 < n → n ≤ 2 ^ prec f → Between +0 (div f (of_int f (pos c)) (of_int f (pos n))) one
share_range f c n h N P =
    let v : HasValue (of_int f (pos c)) false c 1 = whole_value f c (le_trans h P) in
    let w : HasValue (of_int f (pos n)) false n 1 = whole_value f n P in
    let p : T (nonneg (of_int f (pos c))) = nonneg_of_value (of_int f (pos c)) c 1 v in
    quotient_range f (of_int f (pos c)) (of_int f (pos n)) p (whole_positive f n P N)
    (le_of_values (of_int f (pos c)) (of_int f (pos n)) c 1 n 1 (zero-lt-suc 0) (zero-lt-suc 0) v w (mul-le-mul_right 1 h))

-- ---- 1 / k for a k from 1 to 2 ^ j lies from least = 2 ^ -j to 1
pub reciprocal_range : (f : Format) (k j : ℕ) (least : Float) → 0 < k → k ≤ 2 ^ j → k ≤ 2 ^ prec f → T (fits f least) → HasValue least false 1 (2 ^ j)
    → Between least (div f one (of_int f (pos k))) one
reciprocal_range f k j least K J P t v =
    let y = of_int f (pos k) in
    let w : HasValue y false k 1 = whole_value f k P in
    let e : div f one y ≡ round f false (1 * 1) (k * 1) = div_at f one y 1 1 k 1 (zero-lt-suc 0) (zero-lt-suc 0) (refl, refl) w (whole_positive f k P K) in
    let C : 0 < k * 1 = mul-pos K (zero-lt-suc 0) in
    subst (λ (z : Float). Between least z one) (sym e) (record {
      finite = round_finite f 1 (k * 1) 1 1 one C (zero-lt-suc 0) (one_fits f) (refl, refl) (above k K);
      from = round_from f 1 (k * 1) 1 (2 ^ j) least C (pow_pos j) t v (below k (2 ^ j) J);
      to = round_to f 1 (k * 1) 1 1 one C (zero-lt-suc 0) (one_fits f) (refl, refl) (above k K);
    })
  where
    above : (k : ℕ) → 0 < k → 1 * 1 ≤ 1 * (k * 1)
    above k h = omega arith

    below : (k t : ℕ) → k ≤ t → 1 * (k * 1) ≤ 1 * t
    below k t h = omega arith

-- ---- 1 - x for an x in 0..1
pub complement_range : (f : Format) (x : Float) → T (nonneg x) → T (le x one) → Between +0 (sub f one x) one
complement_range f x p h =
    let a = 1 * den x - num x * 1 in
    let c = 1 * den x in
    let C : 0 < c = mul-pos (zero-lt-suc 0) (den_pos x) in
    let l : a * 1 ≤ 1 * c = less (den x) (num x) in
    let n : T (nonneg (round f false a c)) = round_finite f a c 1 1 one C (zero-lt-suc 0) (one_fits f) (refl, refl) l in
    subst (λ (z : Float). Between +0 z one) (sym (sub_is f one x tt p h))
    (record { finite = n; from = zero_le_nonneg _ n; to = round_to f a c 1 1 one C (zero-lt-suc 0) (one_fits f) (refl, refl) l })
  where
    less : (d n : ℕ) → (1 * d - n * 1) * 1 ≤ 1 * (1 * d)
    less d n = omega arith

-- ---- a product with a factor of 1 at most
pub product_below : (f : Format) (x y : Float) → T (nonneg x) → T (nonneg y) → T (fits f x) → T (le y one) → Between +0 (mul f x y) x
product_below f x y p q t h =
    let C : 0 < den x * den y = mul-pos (den_pos x) (den_pos y) in
    let l : num x * num y * den x ≤ num x * (den x * den y) = go (num x) (den x) (num y) (den y) (cross_of_le y one q tt h) in
    let n : T (nonneg (round f false (num x * num y) (den x * den y))) =
    round_finite f (num x * num y) (den x * den y) (num x) (den x) x C (den_pos x) t (value_of x p) l in
    subst (λ (z : Float). Between +0 z x) (sym (mul_is f x y p q)) (record {
      finite = n;
      from = zero_le_nonneg _ n;
      to = round_to f (num x * num y) (den x * den y) (num x) (den x) x C (den_pos x) t (value_of x p) l;
    })
  where
    go : (n d m e : ℕ) → m * 1 ≤ 1 * e → n * m * d ≤ n * (d * e)
    go n d m e h = omega (arith, mul-le-mul_left (n * d) h)

-- ---- a sum is at least its first term
pub sum_above : (f : Format) (x y : Float) → T (nonneg x) → T (nonneg y) → T (fits f x) → T (le x (add f x y))
sum_above f x y p q t =
    subst (λ (z : Float). T (le x z)) (sym (add_is f x y p q))
    (round_from f (num x * den y + num y * den x) (den x * den y) (num x) (den x) x (mul-pos (den_pos x) (den_pos y)) (den_pos x) t (value_of x p)
    (go (num x) (den x) (num y) (den y)))
  where
    go : (n d m e : ℕ) → n * (d * e) ≤ (n * e + m * d) * d
    go n d m e = omega arith

-- ---- the smaller of 1 and a value with no minus sign; a NaN gives 1
pub capped_range : (x : Float) → T (unsigned x) → Between +0 (cond (lt x one) x one) one
capped_range x u = go (lt x one) refl
  where
    go : (b : Bool) → lt x one ≡ b → Between +0 (cond b x one) one
    go false e = record { finite = tt; from = zero_le_nonneg one tt; to = le_of_cross one one tt tt (le_refl 1) }
    go true e =
        let h : T (le x one) = le_of_lt x one e in
        let n : T (nonneg x) = nonneg_below x one u tt h in
        record { finite = n; from = zero_le_nonneg x n; to = h }
