-- x = 2 ^ k * (1 + f). `octave`: the n / 2 ^ j that `places` picks lies from √½ up and below √2, in squares. `exact`: of a double's n it is not rounded.
-- `reduced_is`: the logarithm of n smallest doubles by the significand q of n and the place of its leading one. Assumes nothing.
use mathlib.Core.Path.{◌≡◌, refl, sym, ap, ◌∙◌, subst}
use Prim.Native.Nat.{ℕ, suc, ◌+◌, ◌-◌, ◌*◌, ◌/◌, ◌%◌, ◌^◌, ◌≤◌, ◌<◌}
use native.Mathlib.Nat.{le_trans, le_of_eq, lt_of_lt_of_le, lt_of_le_of_lt, lt_of_not-le, lt_irrefl, not-le_of_lt, mul_comm, mul_assoc}
use native.Mathlib.Nat.{mul_left_comm, mul_right_comm, mul-le-mul, mul-le-mul_right, mul-lt-mul_of_pos_right, le_of_mul-le-mul_right}
use native.Mathlib.Nat.{lt_of_mul-lt-mul_right, pow-succ'}
use native.Mathlib.Omega.{arith}
use mathlib.Core.Bool.{Bool, true, false, not, cond}
use lib.Dec.{T, eqb, eqb→eq, ltb, ltb→lt, lt→ltb, nltb→le, not_T, lit<, lit≤}
use lib.Pow.{pow-add, pow_pos, pow_mono}
use lib.Ieee.{Float, binary64, minus, size, round, of_int}
use lib.Ieee.Bits.{is_true, is_false}
use lib.Ieee.Digits.{size-lt, size_reaches}
use lib.Ieee.Exact.{HasValue, round_exact}
use lib.Ieee.Scale.{round_same}
use Rattle.sqrt.proofs.Roots.{four_pow, four_pos, sq_pow, sq_lt}
use Rattle.sqrt.specs.Inner.Steps.{units_of}
use Rattle.sqrt.proofs.Powers.{joined}
use Rattle.sqrt.proofs.Patterns.{units_low, high_digits}
use Rattle.sqrt.proofs.Shift.{size_exact, shifted_fraction, low_digits}
use Rattle.rounding.specs.Doubles.{◌⊖◌, one}
use Rattle.ln.specs.Ln.{series, places, ln_units}
use Rattle.ln.specs.Inner.Steps.{ln_at}
use Rattle.ln.proofs.Fraction.{small}

-- ---- √½ ≤ n / 2 ^ j < √2

abbrev pub Octave : ℕ → ℕ → Type 0
Octave n j = (4 ^ j ≤ 2 * (n * n)) × (n * n < 2 * 4 ^ j)

pub octave : (n : ℕ) → 0 < n → Octave n (places n)
unfolding places
octave n p =
    let d = size n - 1 in
    let some : 0 < size n = lt_of_not-le (λ (g : size n ≤ 0). lt_irrefl n (lt_of_lt_of_le (size-lt n) (le_trans (pow_mono g) p))) in
    let z : suc d ≡ size n = omega arith in
    let lo : 2 ^ d ≤ n = size_reaches n d (omega arith) in
    let hi : n < 2 ^ suc d = subst (λ (x : ℕ). n < 2 ^ x) (sym z) (size-lt n) in
    let a : 4 ^ d ≤ n * n = le_trans (le_of_eq (four_pow d)) (mul-le-mul lo lo) in
    let b : n * n < 4 ^ suc d = lt_of_lt_of_le (sq_lt n (2 ^ suc d) hi) (le_of_eq (sym (four_pow (suc d)))) in
    let f : 4 ^ suc d ≡ 4 * 4 ^ d = pow-succ' 4 d in
    go (size n - 1) a b f (ltb (n * n) (2 * 4 ^ d)) (ltb→lt (n * n) (2 * 4 ^ d)) (nltb→le (n * n) (2 * 4 ^ d))
  where
    go : (d : ℕ) → 4 ^ d ≤ n * n → n * n < 4 ^ suc d → 4 ^ suc d ≡ 4 * 4 ^ d → (t : Bool) → (T t → n * n < 2 * 4 ^ d) → (T (not t) → 2 * 4 ^ d ≤ n * n)
        → Octave n (cond t d (suc d))
    go d a b f true y m = let h = y tt in (omega arith, h)
    go d a b f false y m = let h = m tt in (omega arith, omega arith)

-- ---- by the significand

same_bool : (s t : Bool) → (T s → T t) → (T t → T s) → s ≡ t
same_bool true t f g = sym (is_true t (f tt))
same_bool false true f g = absurd (g tt)
same_bool false false f g = refl

-- a / x and b / y are the same fraction, and so is below c where the other is
same_test : (a b c x y : ℕ) → 0 < x → 0 < y → a * y ≡ b * x → ltb a (c * x) ≡ ltb b (c * y)
same_test a b c x y X Y e =
    same_bool (ltb a (c * x)) (ltb b (c * y)) (λ t. lt→ltb b (c * y) (to a b x y X Y e (ltb→lt a (c * x) t)))
    (λ t. lt→ltb a (c * x) (to b a y x Y X (sym e) (ltb→lt b (c * y) t)))
  where
    swap : (c x y : ℕ) → c * x * y ≡ c * y * x
    swap c x y = mul_assoc c x y ∙ ap (λ (z : ℕ). c * z) (mul_comm x y) ∙ sym (mul_assoc c y x)

    to : (a b x y : ℕ) → 0 < x → 0 < y → a * y ≡ b * x → a < c * x → b < c * y
    to a b x y X Y e h = lt_of_mul-lt-mul_right x (lt_of_le_of_lt (le_of_eq (sym e)) (lt_of_lt_of_le (mul-lt-mul_of_pos_right h Y) (le_of_eq (swap c x y))))

-- n is q * 2 ^ place / 2 ^ 52
module _ (n q place : ℕ) (lo : 2 ^ 52 ≤ q) (hi : q < 2 ^ 53) (e : n * 2 ^ 52 ≡ q * 2 ^ place) where
  leading : size n ≡ suc place
  leading =
      size_exact place n
      (le_of_mul-le-mul_right (le_trans (le_of_eq (mul_comm (2 ^ place) (2 ^ 52))) (le_trans (mul-le-mul_right (2 ^ place) lo) (le_of_eq (sym e))))
      (pow_pos 52))
      (lt_of_mul-lt-mul_right (2 ^ 52) (lt_of_le_of_lt (le_of_eq e) (lt_of_lt_of_le (mul-lt-mul_of_pos_right hi (pow_pos place)) (le_of_eq (top place)))))
    where
      top : (d : ℕ) → 2 ^ 53 * 2 ^ d ≡ 2 ^ suc d * 2 ^ 52
      top d = sym (pow-add 2 53 d) ∙ ap (λ (x : ℕ). 2 ^ x) (turn d) ∙ pow-add 2 (suc d) 52
        where
          turn : (d : ℕ) → 53 + d ≡ suc d + 52
          turn d = omega arith

  squares : n * n * 4 ^ 52 ≡ q * q * 4 ^ place
  squares = sym (sq_pow n 52) ∙ ap (λ (x : ℕ). x * x) e ∙ sq_pow q place

  doubled : n * 2 ^ 53 ≡ q * 2 ^ suc place
  doubled =
      ap (λ (x : ℕ). n * x) (pow-succ' 2 52) ∙ mul_left_comm n 2 (2 ^ 52) ∙ ap (λ (x : ℕ). 2 * x) e ∙ mul_left_comm 2 q (2 ^ place)
      ∙ ap (λ (x : ℕ). q * x) (sym (pow-succ' 2 place))

  pub reduced_is : ln_units n ≡ ln_at q place
  unfolding ln_units places ln_at
  reduced_is =
      ap (λ (d : ℕ). at (cond (ltb (n * n) (2 * 4 ^ d)) d (suc d))) (ap (λ (x : ℕ). x - 1) leading ∙ less place)
      ∙ ap (λ (t : Bool). at (cond t place (suc place))) (same_test (n * n) (q * q) 2 (4 ^ place) (4 ^ 52) (four_pos place) (four_pos 52) squares)
      ∙ go (ltb (q * q) (2 * 4 ^ 52))
    where
      at : ℕ → Float
      at j = series (of_int binary64 (minus j 1074)) (round binary64 false n (2 ^ j) ⊖ one)

      less : (d : ℕ) → suc d - 1 ≡ d
      less d = omega arith

      go : (t : Bool) → at (cond t place (suc place))
          ≡ cond t (series (of_int binary64 (minus place 1074)) (round binary64 false q (2 ^ 52) ⊖ one))
          (series (of_int binary64 (minus (suc place) 1074)) (round binary64 false q (2 ^ 53) ⊖ one))
      go true = ap (λ (v : Float). series (of_int binary64 (minus place 1074)) (v ⊖ one))
          (round_same binary64 false n (2 ^ place) q (2 ^ 52) (pow_pos place) (pow_pos 52) e)
      go false = ap (λ (v : Float). series (of_int binary64 (minus (suc place) 1074)) (v ⊖ one))
          (round_same binary64 false n (2 ^ suc place) q (2 ^ 53) (pow_pos (suc place)) (pow_pos 53) doubled)

  -- n / 2 ^ j is not rounded, where n * 2 ^ a is q * 2 ^ j
  exact_at : (a j i : ℕ) → a + i ≡ 1074 → i ≤ 2000 → n * 2 ^ a ≡ q * 2 ^ j → HasValue (round binary64 false n (2 ^ j)) false n (2 ^ j)
  exact_at a j i s l h =
      round_exact binary64 false n (2 ^ j) q i (pow_pos j) hi (small q i hi l)
      (sym (joined n a i 1074 s) ∙ ap (λ (x : ℕ). x * 2 ^ i) h ∙ mul_right_comm q (2 ^ j) (2 ^ i))

  exact_fraction : HasValue (round binary64 false n (2 ^ places n)) false n (2 ^ places n)
  unfolding places
  exact_fraction =
      subst (λ (d : ℕ). HasValue (round binary64 false n (2 ^ cond (ltb (n * n) (2 * 4 ^ d)) d (suc d))) false n (2 ^ cond (ltb (n * n) (2 * 4 ^ d)) d (suc d)))
      (sym (ap (λ (x : ℕ). x - 1) leading ∙ less place)) (go (ltb (n * n) (2 * 4 ^ place)))
    where
      less : (d : ℕ) → suc d - 1 ≡ d
      less d = omega arith

      go : (t : Bool) → HasValue (round binary64 false n (2 ^ cond t place (suc place))) false n (2 ^ cond t place (suc place))
      go true = exact_at 52 place 1022 refl (omega arith) e
      go false = exact_at 53 (suc place) 1021 refl (omega arith) doubled

-- ---- of a double above zero, by its pattern

pub exact : (b : ℕ) → 0 < b → b < 0x7ff0_0000_0000_0000
    → HasValue (round binary64 false (units_of b) (2 ^ places (units_of b))) false (units_of b) (2 ^ places (units_of b))
exact b p l = go (eqb (b / 2 ^ 52) 0) (eqb→eq (b / 2 ^ 52) 0) (λ t z. subst (λ (x : ℕ). T (not (eqb x 0))) z t)
  where
    go : (t : Bool) → (T t → b / 2 ^ 52 ≡ 0) → (T (not t) → b / 2 ^ 52 ≡ 0 → ⊥)
        → HasValue (round binary64 false (units_of b) (2 ^ places (units_of b))) false (units_of b) (2 ^ places (units_of b))
    go true y m =
        let t = b % 2 ^ 52 in
        let s = 53 - size t in
        let w = shifted_fraction t s (omega (arith, y tt)) (omega arith) refl in
        exact_fraction (units_of b) (t * 2 ^ s) (52 - s) w.1 w.2 (ap (λ (x : ℕ). x * 2 ^ 52) (units_low b (y tt)) ∙ low_digits t s w.0)
    go false y m = exact_fraction (units_of b) (b % 2 ^ 52 + 2 ^ 52) (b / 2 ^ 52 + 51) (omega arith) (omega arith) (high_digits b (m tt))

-- ---- the code's test: 6369051672525773 is the least q with q * q above 2 * 4 ^ 52

pub under_root : (q : ℕ) → q < 6369051672525773 → ltb (q * q) (2 * 4 ^ 52) ≡ true
under_root q h =
    let l : q ≤ 6369051672525772 = omega arith in
    is_true (ltb (q * q) (2 * 4 ^ 52)) (lt→ltb (q * q) (2 * 4 ^ 52) (lt_of_le_of_lt (mul-le-mul l l) (lit< tt)))

pub over_root : (q : ℕ) → 6369051672525773 ≤ q → ltb (q * q) (2 * 4 ^ 52) ≡ false
over_root q h =
    is_false (ltb (q * q) (2 * 4 ^ 52))
    (not_T (ltb (q * q) (2 * 4 ^ 52))
    (λ (u : T (ltb (q * q) (2 * 4 ^ 52))). not-le_of_lt (lt_of_lt_of_le (ltb→lt (q * q) (2 * 4 ^ 52) u) (lit≤ tt)) (mul-le-mul h h)))
