-- Of two values that a format holds, the fractions tell them apart; so a value that the format holds is what any fraction of its size rounds to.
-- Assumes nothing.
use mathlib.Core.Path.{◌≡◌, refl, sym, ap, ◌∙◌}
use Prim.Native.Nat.{ℕ, zero, suc, ◌+◌, ◌*◌, ◌%◌, ◌^◌, ◌<◌}
use native.Mathlib.Nat.{le_of_eq, lt_of_lt_of_le, lt_of_le_of_lt, zero-lt-suc, lt_irrefl, eq_of_mul-eq-mul_right, mul-one, one-mul}
use native.Mathlib.Nat.{mul_assoc, mul_left_comm, mul_right_comm, mul-lt-mul_of_pos_right, lt_of_mul-lt-mul_right, mul-pos, pow-suc}
use native.Mathlib.Nat.{pow-succ'}
use native.Mathlib.Omega.{arith}
use mathlib.Core.Bool.{true, false}
use lib.IntN.{ℤ, pos, negsuc}
use lib.Dec.{T, eqb→eq}
use lib.Pow.{pow-add}
use lib.Ieee.{Float, nan, inf, fin, Format, emax, up, down, round, fits}
use lib.Ieee.Fits.{round-fits, up_pos, down_pos}
use lib.Ieee.Exact.{HasValue}
use lib.Ieee.Positive.{num, den, value→cross}
use Rattle.rounding.proofs.FromZero.{zero as +0, nonneg, nonneg_of_value}
use Rattle.rounding.proofs.Exact.{fit_of, held_value, round_held, under_top_of_fits}

even_odd : (m t : ℕ) → m % 2 ≡ 1 → m ≡ 2 * t → ⊥
even_odd m t o h = omega arith

odd_pow : (m n a b : ℕ) → m % 2 ≡ 1 → n % 2 ≡ 1 → m * 2 ^ a ≡ n * 2 ^ b → (m ≡ n) × (a ≡ b)
odd_pow m n zero zero o p h = (sym (mul-one m) ∙ h ∙ mul-one n, refl)
odd_pow m n zero (suc b) o p h = absurd (even_odd m (n * 2 ^ b) o (sym (mul-one m) ∙ h ∙ ap (λ (x : ℕ). n * x) (pow-succ' 2 b) ∙ mul_left_comm n 2 (2 ^ b)))
odd_pow m n (suc a) zero o p h = absurd (even_odd n (m * 2 ^ a) p (sym (mul-one n) ∙ sym h ∙ ap (λ (x : ℕ). m * x) (pow-succ' 2 a) ∙ mul_left_comm m 2 (2 ^ a)))
odd_pow m n (suc a) (suc b) o p h =
    let r = odd_pow m n a b o p (eq_of_mul-eq-mul_right 2 (zero-lt-suc 1) (m * 2 ^ a) (n * 2 ^ b)
    (mul_assoc m (2 ^ a) 2 ∙ ap (λ (x : ℕ). m * x) (sym (pow-suc 2 a)) ∙ h ∙ ap (λ (x : ℕ). n * x) (pow-suc 2 b) ∙ sym (mul_assoc n (2 ^ b) 2))) in
    (r.0, ap suc r.1)

same_fin : (m n : ℕ) (e g : ℤ) → m % 2 ≡ 1 → n % 2 ≡ 1 → m * up e * down g ≡ n * up g * down e → (m ≡ n) × (e ≡ g)
same_fin m n (pos a) (pos b) o p h =
    let r = odd_pow m n a b o p (sym (mul-one (m * 2 ^ a)) ∙ h ∙ mul-one (n * 2 ^ b)) in (r.0, ap pos r.1)
same_fin m n (pos a) (negsuc b) o p h =
    let r = odd_pow m n (a + suc b) 0 o p (ap (λ (z : ℕ). m * z) (pow-add 2 a (suc b)) ∙ sym (mul_assoc m (2 ^ a) (2 ^ suc b)) ∙ h
    ∙ mul-one (n * 1)) in absurd (none a b r.1)
  where
    none : (a b : ℕ) → a + suc b ≡ 0 → ⊥
    none a b e = omega arith
same_fin m n (negsuc a) (pos b) o p h =
    let r = odd_pow m n 0 (b + suc a) o p
    (sym (mul-one (m * 1)) ∙ h ∙ mul_assoc n (2 ^ b) (2 ^ suc a) ∙ ap (λ (z : ℕ). n * z) (sym (pow-add 2 b (suc a)))) in absurd (none a b r.1)
  where
    none : (a b : ℕ) → 0 ≡ b + suc a → ⊥
    none a b e = omega arith
same_fin m n (negsuc a) (negsuc b) o p h =
    let r = odd_pow m n (suc b) (suc a) o p (ap (λ (z : ℕ). z * 2 ^ suc b) (sym (mul-one m)) ∙ h ∙ ap (λ (z : ℕ). z * 2 ^ suc a) (mul-one n)) in
    (r.0, ap negsuc (back' r.1))
  where
    back' : suc b ≡ suc a → a ≡ b
    back' e = omega arith

-- zero is written in one way
zero_exponent : (e : ℤ) → up e * down e ≡ 1 → e ≡ pos 0
zero_exponent (pos zero) h = refl
zero_exponent (pos (suc k)) h = absurd (even_odd 1 (2 ^ k) refl (sym h ∙ mul-one (2 ^ suc k) ∙ pow-succ' 2 k))
zero_exponent (negsuc k) h = absurd (even_odd 1 (2 ^ k) refl (sym h ∙ one-mul (2 ^ suc k) ∙ pow-succ' 2 k))

zero_is : (f : Format) (e : ℤ) → T (fits f (fin false 0 e)) → e ≡ pos 0
unfolding fits
zero_is f e t = zero_exponent e (eqb→eq (up e * down e) 1 t)

none : (m a b c d : ℕ) → 0 < a → 0 < b → 0 * c * d ≡ suc m * a * b → ⊥
none m a b c d A B h = lt_irrefl 0 (lt_of_lt_of_le (mul-pos (mul-pos (zero-lt-suc m) A) B) (le_of_eq (sym h ∙ gone c d)))
  where
    gone : (c d : ℕ) → 0 * c * d ≡ 0
    gone c d = omega arith

pub value_unique : (f : Format) (x y : Float) → T (nonneg x) → T (nonneg y) → T (fits f x) → T (fits f y) → num x * den y ≡ num y * den x → x ≡ y
value_unique f nan y p q t u h = absurd p
value_unique f (inf s) y p q t u h = absurd p
value_unique f (fin true m e) y p q t u h = absurd p
value_unique f (fin false m e) nan p q t u h = absurd q
value_unique f (fin false m e) (inf s) p q t u h = absurd q
value_unique f (fin false m e) (fin true n g) p q t u h = absurd q
value_unique f (fin false zero e) (fin false zero g) p q t u h = ap (fin false 0) (zero_is f e t ∙ sym (zero_is f g u))
value_unique f (fin false zero e) (fin false (suc n) g) p q t u h = absurd (none n (up g) (down e) (up e) (down g) (up_pos g) (down_pos e) h)
value_unique f (fin false (suc m) e) (fin false zero g) p q t u h = absurd (none m (up e) (down g) (up g) (down e) (up_pos e) (down_pos g) (sym h))
value_unique f (fin false (suc m) e) (fin false (suc n) g) p q t u h =
    let r = same_fin (suc m) (suc n) e g (fit_of f false m e t).odd (fit_of f false n g u).odd h in
    λ i. fin false (r.0 i) (r.1 i)

-- by any fractions that the values equal
pub same_value : (f : Format) (x y : Float) (a c : ℕ) → 0 < c → T (fits f x) → T (fits f y) → HasValue x false a c → HasValue y false a c → x ≡ y
same_value f x y a c C t u v w =
    value_unique f x y (nonneg_of_value x a c v) (nonneg_of_value y a c w) t u
    (eq_of_mul-eq-mul_right c C (num x * den y) (num y * den x) (turn (num x) (den x) (num y) (den y) (value→cross x a c v) (value→cross y a c w)))
  where
    turn : (n d m b : ℕ) → n * c ≡ a * d → m * c ≡ a * b → n * b * c ≡ m * d * c
    turn n d m b g h = omega (arith, ap (λ (z : ℕ). z * b) g, ap (λ (z : ℕ). z * d) h)

zero_fits : (f : Format) → T (fits f +0)
unfolding fits
zero_fits f = tt

-- a value that fits is rounded to itself, whatever fraction of its size is rounded
pub round_fit : (f : Format) (x : Float) (a c : ℕ) → T (fits f x) → 0 < c → HasValue x false a c → round f false a c ≡ x
round_fit f x a c t C v =
    same_value f (round f false a c) x a c C (round-fits f false a c) t
    (round_held f a c C (held_value f x a c t v)
    (lt_of_mul-lt-mul_right (den x) (scaled (under_top_of_fits f x (nonneg_of_value x a c v) t) (value→cross x a c v)))) v
  where
    scaled : num x < 2 ^ suc (emax f) * den x → num x * c ≡ a * den x → a * den x < 2 ^ suc (emax f) * c * den x
    scaled h e = lt_of_le_of_lt (le_of_eq (sym e)) (lt_of_lt_of_le (mul-lt-mul_of_pos_right h C) (le_of_eq (mul_right_comm (2 ^ suc (emax f)) (den x) c)))

-- so nothing rounds to +0
pub round_zero : (f : Format) (c : ℕ) → 0 < c → round f false 0 c ≡ +0
round_zero f c C = round_fit f +0 0 c (zero_fits f) C (refl, gone c)
  where
    gone : (c : ℕ) → 0 * 1 * c ≡ 0 * 1
    gone c = omega arith
