-- What fits is exact: a value that the format holds comes out of a rounding unchanged, and so does its product with a power of two, in range.
-- `Held f a c` says that a / c is q * 2 ^ j of the format's smallest value, with a q that the format's digits hold. Assumes nothing.
use mathlib.Core.Path.{◌≡◌, sym, ap, ◌∙◌, subst}
use Prim.Native.Nat.{ℕ, zero, suc, ◌+◌, ◌-◌, ◌*◌, ◌%◌, ◌^◌, ◌≤◌, ◌<◌}
use native.Mathlib.Nat.{le_trans, le_of_eq, lt_of_lt_of_le, lt_of_le_of_lt, le_of_suc-le-suc, lt_of_not-le, not-le_of_lt}
use native.Mathlib.Nat.{eq_of_mul-eq-mul_right, zero-mul, mul-one, mul_assoc, mul_right_comm, mul-lt-mul_of_pos_right}
use native.Mathlib.Nat.{le_of_mul-le-mul_right, lt_of_mul-lt-mul_right, mul-pos}
use native.Mathlib.Omega.{arith}
use mathlib.Core.Bool.{Bool, true, false, ◌&&◌}
use lib.IntN.{ℤ, pos, negsuc}
use lib.Dec.{T, leb, ltb, eqb, leb→le, le→leb, ltb→lt, eqb→eq}
use lib.Pow.{pow-add, pow_pos, pow-lt}
use lib.Ieee.{Float, nan, inf, fin, Format, binary64, prec, emax, low, up, down, round, mul, fits, in_float}
use lib.Ieee.Fits.{two, two-le_pos, and_l, and_r, down_pos}
use lib.Ieee.Exact.{HasValue, round_exact}
use lib.Ieee.Positive.{num, den, den_pos, value→cross}
use Rattle.rounding.proofs.Powers.{pow_lt_inj}
use Rattle.rounding.proofs.FromZero.{nonneg, nonneg_of_value}
use Rattle.rounding.proofs.Operations.{mul_at}

pub record Held (f : Format) (a c : ℕ) : Type 0 where
  pub q : ℕ
  pub j : ℕ
  pub digits : q < 2 ^ prec f
  pub is : a * 2 ^ low f ≡ q * 2 ^ j * c

pub round_held : (f : Format) (a c : ℕ) → 0 < c → Held f a c → a < 2 ^ suc (emax f) * c → HasValue (round f false a c) false a c
round_held f a c C h O =
    round_exact f false a c h.q h.j C h.digits
    (lt_of_mul-lt-mul_right c
    (subst (λ (z : ℕ). z < 2 ^ (low f + suc (emax f)) * c) h.is
    (lt_of_lt_of_le (mul-lt-mul_of_pos_right O (pow_pos (low f)))
    (le_of_eq (turn (2 ^ suc (emax f)) c (2 ^ low f) ∙ ap (λ (z : ℕ). z * c) (sym (pow-add 2 (low f) (suc (emax f)))))))))
    h.is
  where
    turn : (m c l : ℕ) → m * c * l ≡ l * m * c
    turn m c l = omega arith

pub mul_held : (f : Format) (x y : Float) (a c b d : ℕ) → 0 < c → 0 < d → HasValue x false a c → HasValue y false b d
    → Held f (a * b) (c * d) → a * b < 2 ^ suc (emax f) * (c * d) → HasValue (mul f x y) false (a * b) (c * d)
mul_held f x y a c b d C D v w h O =
    subst (λ (z : Float). HasValue z false (a * b) (c * d)) (sym (mul_at f x y a c b d C D v w)) (round_held f (a * b) (c * d) (mul-pos C D) h O)

-- 2 ^ t times a value that is held
pub held_up : (f : Format) (a c t : ℕ) → Held f a c → Held f (a * 2 ^ t) c
held_up f a c t h = record {
  q = h.q;
  j = h.j + t;
  digits = h.digits;
  is = mul_right_comm a (2 ^ t) (2 ^ low f) ∙ ap (λ (z : ℕ). z * 2 ^ t) h.is ∙ turn h.q (2 ^ h.j) c (2 ^ t)
      ∙ ap (λ (z : ℕ). h.q * z * c) (sym (pow-add 2 h.j t));
}
  where
    turn : (q p c t : ℕ) → q * p * c * t ≡ q * (p * t) * c
    turn q p c t = omega arith

back : (l k : ℕ) → k ≤ l → l - k + k ≡ l
back l k h = omega arith

-- a value that is held, over 2 ^ t, where that is in the normal range
pub held_down : (f : Format) (a c t : ℕ) → 0 < c → 2 ^ (prec f - 1) * (c * 2 ^ t) ≤ a * 2 ^ low f → Held f a c → Held f a (c * 2 ^ t)
held_down f a c t C N h =
    let k : 2 ^ (prec f - 1 + t) ≤ h.q * 2 ^ h.j =
    le_trans (le_of_eq (pow-add 2 (prec f - 1) t))
    (le_of_mul-le-mul_right (le_trans (le_of_eq (turn (2 ^ (prec f - 1)) (2 ^ t) c)) (le_trans N (le_of_eq h.is))) C) in
    let l : 2 ^ (prec f - 1 + t) < 2 ^ (prec f + h.j) =
    lt_of_le_of_lt k (lt_of_lt_of_le (mul-lt-mul_of_pos_right h.digits (pow_pos h.j)) (le_of_eq (sym (pow-add 2 (prec f) h.j)))) in
    let r : t ≤ h.j = enough (prec f) t h.j (two-le_pos (prec f) (two f)) (pow_lt_inj (prec f - 1 + t) (prec f + h.j) l) in
    record {
      q = h.q;
      j = h.j - t;
      digits = h.digits;
      is = h.is ∙ ap (λ (z : ℕ). h.q * z * c) (ap (λ (z : ℕ). 2 ^ z) (sym (back h.j t r)) ∙ pow-add 2 (h.j - t) t)
          ∙ again h.q (2 ^ (h.j - t)) (2 ^ t) c;
    }
  where
    enough : (p t j : ℕ) → 0 < p → p - 1 + t < p + j → t ≤ j
    enough p t j P h = omega arith

    turn : (a b c : ℕ) → a * b * c ≡ a * (c * b)
    turn a b c = omega arith

    again : (q a b c : ℕ) → q * (a * b) * c ≡ q * a * (c * b)
    again q a b c = omega arith

-- a whole number of prec digits over a power of two, no finer than the format's smallest value
pub held_whole : (f : Format) (n t : ℕ) → n < 2 ^ prec f → t ≤ low f → Held f n (2 ^ t)
held_whole f n t h g = record {
  q = n;
  j = low f - t;
  digits = h;
  is = ap (λ (z : ℕ). n * z) (ap (λ (z : ℕ). 2 ^ z) (sym (back (low f) t g)) ∙ pow-add 2 (low f - t) t) ∙ sym (mul_assoc n (2 ^ (low f - t)) (2 ^ t));
}

-- ---- a value that fits is held
low_enough_lem : (k l : ℕ) → 2 ^ suc k ≤ 2 ^ l → suc k ≤ l
low_enough_lem k l h = le_of_suc-le-suc (lt_of_not-le (λ (g : suc l ≤ suc k). not-le_of_lt (pow-lt g) h))

held_fin : (f : Format) (m : ℕ) (e : ℤ) → m < 2 ^ prec f → down e ≤ 2 ^ low f → Held f (m * up e) (down e)
held_fin f m (pos k) a b =
    record {
      q = m;
      j = k + low f;
      digits = a;
      is = mul_assoc m (2 ^ k) (2 ^ low f) ∙ ap (λ (z : ℕ). m * z) (sym (pow-add 2 k (low f)))
          ∙ sym (mul-one (m * 2 ^ (k + low f)));
    }
held_fin f m (negsuc k) a b = record {
  q = m;
  j = low f - suc k;
  digits = a;
  is = ap (λ (z : ℕ). z * 2 ^ low f) (mul-one m)
      ∙ ap (λ (z : ℕ). m * z) (ap (λ (z : ℕ). 2 ^ z) (sym (back (low f) (suc k) (low_enough_lem k (low f) b))) ∙ pow-add 2 (low f - suc k) (suc k))
      ∙ sym (mul_assoc m (2 ^ (low f - suc k)) (2 ^ suc k));
}

-- what `fits` says of a value that is not zero
pub record Fit (f : Format) (m : ℕ) (e : ℤ) : Type 0 where
  pub odd : m % 2 ≡ 1
  pub digits : m < 2 ^ prec f
  pub fine : down e ≤ 2 ^ low f
  pub under_top : m * up e < 2 ^ suc (emax f) * down e

pub fit_of : (f : Format) (s : Bool) (m : ℕ) (e : ℤ) → T (fits f (fin s (suc m) e)) → Fit f (suc m) e
unfolding fits
fit_of f s m e t =
    let A = eqb (suc m % 2) 1 in
    let B = ltb (suc m) (2 ^ prec f) in
    let C = leb (down e) (2 ^ low f) in
    let D = ltb (suc m * up e) (2 ^ suc (emax f) * down e) in
    let abc = and_l (A && B && C) D t in
    let ab = and_l (A && B) C abc in
    record {
      odd = eqb→eq (suc m % 2) 1 (and_l A B ab);
      digits = ltb→lt (suc m) (2 ^ prec f) (and_r A B ab);
      fine = leb→le (down e) (2 ^ low f) (and_r (A && B) C abc);
      under_top = ltb→lt (suc m * up e) (2 ^ suc (emax f) * down e) (and_r (A && B && C) D t);
    }

pub held_of_fits : (f : Format) (x : Float) → T (nonneg x) → T (fits f x) → Held f (num x) (den x)
held_of_fits f nan p t = absurd p
held_of_fits f (inf s) p t = absurd p
held_of_fits f (fin true m e) p t = absurd p
held_of_fits f (fin false zero e) p t = record { q = 0; j = 0; digits = pow_pos (prec f); is = omega arith }
held_of_fits f (fin false (suc m) e) p t = let k = fit_of f false m e t in held_fin f (suc m) e k.digits k.fine

pub under_top_of_fits : (f : Format) (x : Float) → T (nonneg x) → T (fits f x) → num x < 2 ^ suc (emax f) * den x
under_top_of_fits f nan p t = absurd p
under_top_of_fits f (inf s) p t = absurd p
under_top_of_fits f (fin true m e) p t = absurd p
under_top_of_fits f (fin false zero e) p t = lt_of_le_of_lt (le_of_eq (zero-mul (up e))) (mul-pos (pow_pos (suc (emax f))) (down_pos e))
under_top_of_fits f (fin false (suc m) e) p t = (fit_of f false m e t).under_top

-- another fraction of the same size is held too
pub held_same : (f : Format) (a c b d : ℕ) → 0 < c → a * d ≡ b * c → Held f a c → Held f b d
held_same f a c b d C e h = record {
  q = h.q;
  j = h.j;
  digits = h.digits;
  is = eq_of_mul-eq-mul_right c C (b * 2 ^ low f) (h.q * 2 ^ h.j * d) (turn a c b d (2 ^ low f) (h.q * 2 ^ h.j) e h.is);
}
  where
    turn : (a c b d l w : ℕ) → a * d ≡ b * c → a * l ≡ w * c → b * l * c ≡ w * d * c
    turn a c b d l w e h = omega (arith, ap (λ (z : ℕ). z * l) e, ap (λ (z : ℕ). z * d) h)

-- the value x itself, by any fraction a / c that it equals
pub held_value : (f : Format) (x : Float) (a c : ℕ) → T (fits f x) → HasValue x false a c → Held f a c
held_value f x a c t v = held_same f (num x) (den x) a c (den_pos x) (value→cross x a c v) (held_of_fits f x (nonneg_of_value x a c v) t)

-- ---- scaling by a power of two is exact: up where nothing overflows, down in the normal range
module _ (f : Format) (x y : Float) (a c t : ℕ) (C : 0 < c) (h : T (fits f x)) (v : HasValue x false a c) where
  pub scale_up : HasValue y false (2 ^ t) 1 → a * 2 ^ t < 2 ^ suc (emax f) * c → HasValue (mul f x y) false (a * 2 ^ t) c
  scale_up w O =
      subst (λ (z : ℕ). HasValue (mul f x y) false (a * 2 ^ t) z) (mul-one c)
      (mul_held f x y a c (2 ^ t) 1 C (pow_pos 0) v w
      (subst (λ (z : ℕ). Held f (a * 2 ^ t) z) (sym (mul-one c)) (held_up f a c t (held_value f x a c h v)))
      (subst (λ (z : ℕ). a * 2 ^ t < 2 ^ suc (emax f) * z) (sym (mul-one c)) O))

  pub scale_down : HasValue y false 1 (2 ^ t) → 2 ^ (prec f - 1) * (c * 2 ^ t) ≤ a * 2 ^ low f → a < 2 ^ suc (emax f) * (c * 2 ^ t) →
      HasValue (mul f x y) false a (c * 2 ^ t)
  scale_down w N O =
      subst (λ (z : ℕ). HasValue (mul f x y) false z (c * 2 ^ t)) (mul-one a)
      (mul_held f x y a c 1 (2 ^ t) C (pow_pos t) v w
      (subst (λ (z : ℕ). Held f z (c * 2 ^ t)) (sym (mul-one a)) (held_down f a c t C N (held_value f x a c h v)))
      (subst (λ (z : ℕ). z < 2 ^ suc (emax f) * (c * 2 ^ t)) (sym (mul-one a)) O))

-- ---- whole numbers of the format's digits
pub whole_fits : (n : ℕ) → n ≤ 2 ^ 53 → T (in_float binary64 (pos n))
unfolding in_float
whole_fits n h = le→leb n (2 ^ 53) h
