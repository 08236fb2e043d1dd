-- `times_power` goes by halves: a number above 0 has one binary digit more than its half. Assumes nothing.
use mathlib.Core.Path.{◌≡◌, refl, sym, ap, ◌∙◌, subst}
use Prim.Native.Nat.{ℕ, suc, ◌-◌, ◌*◌, ◌/◌, ◌%◌, ◌^◌, ◌≤◌, ◌<◌}
use native.Mathlib.Nat.{le_trans, lt_of_lt_of_le, lt_of_not-le, lt_irrefl, pow-succ'}
use native.Mathlib.Omega.{arith}
use mathlib.Core.Bool.{Bool, cond}
use lib.Dec.{eqb}
use lib.Pow.{pow_mono}
use lib.Ieee.{Float, binary64, mul, size}
use lib.Ieee.Digits.{size-lt, size-le}
use borrow.Author.Tests.{eq-eqb, ne_eqb}
use Rattle.power.specs.Power.{times_in, times_power}

-- ---- digits

double : (n p q : ℕ) → n / 2 < p → q ≡ 2 * p → n < q
double n p q h e = omega arith

halve : (n p q : ℕ) → n < q → q ≡ 2 * p → n / 2 < p
halve n p q h e = omega arith

size_pos : (n : ℕ) → 0 < n → 0 < size n
size_pos n h = lt_of_not-le (λ (g : size n ≤ 0). lt_irrefl n (lt_of_lt_of_le (size-lt n) (le_trans (pow_mono g) h)))

half_size : (n : ℕ) → 0 < n → size n ≡ suc (size (n / 2))
half_size n h =
    let z = size_pos n h in
    let p : suc (size n - 1) ≡ size n = omega arith in
    let a : size n ≤ suc (size (n / 2)) =
    size-le n (suc (size (n / 2))) (double n (2 ^ size (n / 2)) (2 ^ suc (size (n / 2))) (size-lt (n / 2)) (pow-succ' 2 (size (n / 2)))) in
    let b : size (n / 2) ≤ size n - 1 =
    size-le (n / 2) (size n - 1)
    (halve n (2 ^ (size n - 1)) (2 ^ suc (size n - 1)) (subst (λ (x : ℕ). n < 2 ^ x) (sym p) (size-lt n)) (pow-succ' 2 (size n - 1))) in
    omega arith

-- ---- the definition, by the exponent

pub times_none : (y x : Float) → times_power y x 0 ≡ y
unfolding times_power size
times_none y x = refl

module _ (y x : Float) (n : ℕ) (some : 0 < n) where
  half : times_power y x n ≡ times_power (cond (eqb (n % 2) 1) (mul binary64 y x) y) (mul binary64 x x) (n / 2)
  unfolding times_power
  half = ap (λ (d : ℕ). times_in d y x n) (half_size n some)

  pub times_odd : n % 2 ≡ 1 → times_power y x n ≡ times_power (mul binary64 y x) (mul binary64 x x) (n / 2)
  times_odd o = half ∙ ap (λ (b : Bool). times_power (cond b (mul binary64 y x) y) (mul binary64 x x) (n / 2)) (eq-eqb (n % 2) 1 o)

  pub times_even : (n % 2 ≡ 1 → ⊥) → times_power y x n ≡ times_power y (mul binary64 x x) (n / 2)
  times_even o = half ∙ ap (λ (b : Bool). times_power (cond b (mul binary64 y x) y) (mul binary64 x x) (n / 2)) (ne_eqb (n % 2) 1 o)
