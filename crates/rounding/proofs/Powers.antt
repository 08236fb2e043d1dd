-- Powers of whole numbers: of a product, of a power, in order, and Bernoulli's inequality. Assumes nothing.
use mathlib.Core.Path.{◌≡◌, sym, ap, ◌∙◌}
use Prim.Native.Nat.{ℕ, zero, suc, ◌+◌, ◌-◌, ◌*◌, ◌^◌, ◌≤◌, ◌<◌}
use native.Mathlib.Nat.{le_trans, le_of_eq, le_of_suc-le-suc, lt_of_not-le, not-le_of_lt, one-mul, mul-le-mul_right, mul-le-mul_left}
use native.Mathlib.Nat.{le_of_mul-le-mul_right, mul-mul-mul_comm, pow-suc, pow-zero, one-le-pow, le_antisymm}
use native.Mathlib.Omega.{arith}
use lib.Pow.{pow-add, pow-lt, pow_mono}

pub mul_pow : (a b n : ℕ) → (a * b) ^ n ≡ a ^ n * b ^ n
mul_pow a b zero = pow-zero (a * b) ∙ sym (ap (λ (z : ℕ). z * b ^ 0) (pow-zero a) ∙ one-mul (b ^ 0) ∙ pow-zero b)
mul_pow a b (suc n) =
    pow-suc (a * b) n ∙ ap (λ (z : ℕ). z * (a * b)) (mul_pow a b n) ∙ mul-mul-mul_comm (a ^ n) (b ^ n) a b
    ∙ sym (ap (λ (z : ℕ). z * b ^ suc n) (pow-suc a n) ∙ ap (λ (z : ℕ). a ^ n * a * z) (pow-suc b n))

pub pow_mul : (a m n : ℕ) → a ^ (m * n) ≡ (a ^ m) ^ n
pow_mul a m zero = ap (λ (z : ℕ). a ^ z) (none m) ∙ pow-zero a ∙ sym (pow-zero (a ^ m))
  where
    none : (m : ℕ) → m * 0 ≡ 0
    none m = omega arith
pow_mul a m (suc n) = ap (λ (z : ℕ). a ^ z) (more m n) ∙ pow-add a (m * n) m ∙ ap (λ (z : ℕ). z * a ^ m) (pow_mul a m n) ∙ sym (pow-suc (a ^ m) n)
  where
    more : (m n : ℕ) → m * suc n ≡ m * n + m
    more m n = omega arith

pub pow_one : (k : ℕ) → k ^ 1 ≡ k
pow_one k = pow-suc k 0 ∙ ap (λ (z : ℕ). z * k) (pow-zero k) ∙ one-mul k

-- the n-th power of a * 2 ^ j
pub scaled_pow : (a j n : ℕ) → (a * 2 ^ j) ^ n ≡ a ^ n * 2 ^ (j * n)
scaled_pow a j n = mul_pow a (2 ^ j) n ∙ ap (λ (z : ℕ). a ^ n * z) (sym (pow_mul 2 j n))

pub pow_le_inj : (i j : ℕ) → 2 ^ i ≤ 2 ^ j → i ≤ j
pow_le_inj i j h = le_of_suc-le-suc (lt_of_not-le (λ (g : suc j ≤ i). not-le_of_lt (pow-lt g) h))

pub pow_lt_inj : (i j : ℕ) → 2 ^ i < 2 ^ j → i < j
pow_lt_inj i j h = lt_of_not-le (λ (g : j ≤ i). not-le_of_lt h (pow_mono g))

pub pow_inj : (i j : ℕ) → 2 ^ i ≡ 2 ^ j → i ≡ j
pow_inj i j e = le_antisymm (pow_le_inj i j (le_of_eq e)) (pow_le_inj j i (le_of_eq (sym e)))

pub pow_above : {a : ℕ} (n : ℕ) → 0 < a → 0 < a ^ n
pow_above {a} n h = one-le-pow n a h

-- Bernoulli's inequality in whole numbers: (1 + 1 / K) ^ n is at most K / (K - n)
pub bernoulli : (K n r : ℕ) → n + r ≡ K → suc K ^ n * r ≤ K ^ n * K
bernoulli K zero r e = rw (pow-zero, pow-zero) (omega arith)
bernoulli K (suc n) r e =
    let P = suc K ^ n in
    let Q = K ^ n in
    let ih : P * suc r ≤ Q * K = bernoulli K n (suc r) (shift n r K e) in
    let g : suc K * r ≤ K * suc r = step n r K e in
    le_trans (le_of_eq (ap (λ (z : ℕ). z * r) (pow-suc (suc K) n))) (le_trans (last P Q K r g ih) (le_of_eq (ap (λ (z : ℕ). z * K) (sym (pow-suc K n)))))
  where
    shift : (n r K : ℕ) → suc n + r ≡ K → n + suc r ≡ K
    shift n r K e = omega arith

    step : (n r K : ℕ) → suc n + r ≡ K → suc K * r ≤ K * suc r
    step n r K e = omega arith

    last : (P Q K r : ℕ) → suc K * r ≤ K * suc r → P * suc r ≤ Q * K → P * suc K * r ≤ Q * K * K
    last P Q K r g h = omega (arith, mul-le-mul_left P g, mul-le-mul_right K h)

-- so it is at most 2 for an n up to K / 2
pub at_most_two : (K n : ℕ) → 0 < K → n + n ≤ K → suc K ^ n ≤ 2 * K ^ n
at_most_two K n k h = le_of_mul-le-mul_right (last (suc K ^ n) (K ^ n) K (K - n) (big K n h) (bernoulli K n (K - n) (back K n h))) k
  where
    back : (K n : ℕ) → n + n ≤ K → n + (K - n) ≡ K
    back K n h = omega arith

    big : (K n : ℕ) → n + n ≤ K → K ≤ 2 * (K - n)
    big K n h = omega arith

    last : (P Q K r : ℕ) → K ≤ 2 * r → P * r ≤ Q * K → P * K ≤ 2 * Q * K
    last P Q K r g h = omega (arith, mul-le-mul_left P g)
