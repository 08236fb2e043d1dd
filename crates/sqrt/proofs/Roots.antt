-- `root n` is the largest number whose square is at most n, and no other number is. Assumes nothing.
use mathlib.Core.Path.{◌≡◌, refl, sym, ap, ◌∙◌, subst}
use Prim.Native.Nat.{ℕ, zero, suc, ◌+◌, ◌*◌, ◌/◌, ◌^◌, ◌≤◌, ◌<◌, zero-le}
use native.Mathlib.Nat.{mul-one, mul_assoc, mul_left_comm, add-mul, mul-add, le_antisymm, le_trans, le_of_eq, mul-le-mul_left}
use native.Mathlib.Nat.{lt_of_le_of_lt, lt_of_lt_of_le, lt_of_not-le, lt_irrefl, le_of_lt, mul-pos, mul-lt-mul_of_pos_right, mul-le-mul}
use native.Mathlib.Nat.{pow-succ'}
use native.Mathlib.Omega.{arith}
use mathlib.Core.Bool.{Bool, true, false, not, cond}
use lib.Dec.{T, leb, leb→le, nleb→lt}
use lib.Pow.{pow_pos}
use lib.Ieee.{size}
use lib.Ieee.Digits.{size-lt}
use Rattle.sqrt.specs.Inner.Steps.{IsRoot}
use Rattle.sqrt.specs.Root.{root_in, root}

pub sq_suc : (a : ℕ) → (a + 1) * (a + 1) ≡ a * a + 2 * a + 1
sq_suc a =
    let p : (a + 1) * (a + 1) ≡ a * (a + 1) + 1 * (a + 1) = add-mul a 1 (a + 1) in
    let q : a * (a + 1) ≡ a * a + a * 1 = mul-add a a 1 in
    omega arith

pub sq_dbl : (a : ℕ) → 2 * a * (2 * a) ≡ 4 * (a * a)
sq_dbl a =
    let p : 2 * a * (2 * a) ≡ 2 * (a * (2 * a)) = mul_assoc 2 a (2 * a) in
    let q : a * (2 * a) ≡ 2 * (a * a) = mul_left_comm a 2 a in
    omega arith

-- one more digit: s is the root of n / 4
step_low : (n s : ℕ) → s * s ≤ n / 4 → 2 * s * (2 * s) ≤ n
step_low n s h = omega (arith, sq_dbl s)

step_high : (n s : ℕ) → n / 4 < (s + 1) * (s + 1) → n < (2 * s + 1 + 1) * (2 * s + 1 + 1)
step_high n s h = omega (arith, sq_suc s, sq_suc (2 * s + 1), sq_suc (2 * s), sq_dbl s)

grow : (n s : ℕ) → IsRoot (n / 4) s → (b : Bool) → (T b → (2 * s + 1) * (2 * s + 1) ≤ n) → (T (not b) → n < (2 * s + 1) * (2 * s + 1)) →
    IsRoot n (cond b (2 * s + 1) (2 * s))
grow n s h true y z = (y tt, step_high n s h.1)
grow n s h false y z = (step_low n s h.0, z tt)

quarter : (n p : ℕ) → n < 4 * p → n / 4 < p
quarter n p h = omega arith

below_one : (n : ℕ) → n < 1 → IsRoot n 0
below_one n h = omega arith

root_in_is : (d n : ℕ) → n < 4 ^ d → IsRoot n (root_in d n)
unfolding root_in
root_in_is zero n h = below_one n h
root_in_is (suc d) n h =
    let s = root_in d (n / 4) in
    grow n s (root_in_is d (n / 4) (quarter n (4 ^ d) (subst (λ (x : ℕ). n < x) (pow-succ' 4 d) h))) (leb ((2 * s + 1) * (2 * s + 1)) n)
    (leb→le ((2 * s + 1) * (2 * s + 1)) n) (nleb→lt ((2 * s + 1) * (2 * s + 1)) n)

pub four_pow : (k : ℕ) → 4 ^ k ≡ 2 ^ k * 2 ^ k
four_pow zero = refl
four_pow (suc k) =
    let a : 4 ^ suc k ≡ 4 * 4 ^ k = pow-succ' 4 k in
    let b : 2 ^ suc k ≡ 2 * 2 ^ k = pow-succ' 2 k in
    a ∙ ap (λ (x : ℕ). 4 * x) (four_pow k) ∙ sym (sq_dbl (2 ^ k)) ∙ sym (ap (λ (x : ℕ). x * x) b)

two_le_four : (k : ℕ) → 2 ^ k ≤ 4 ^ k
two_le_four k = le_trans (le_of_eq (sym (mul-one (2 ^ k)))) (le_trans (mul-le-mul_left (2 ^ k) (pow_pos k)) (le_of_eq (sym (four_pow k))))

-- its square is at most n, and the next number's is above n
pub root_is : (n : ℕ) → IsRoot n (root n)
unfolding root
root_is n = root_in_is (size n) n (lt_of_lt_of_le (size-lt n) (two_le_four (size n)))

-- ---- squares

pub four_pos : (k : ℕ) → 0 < 4 ^ k
four_pos k = subst (λ (x : ℕ). 0 < x) (sym (four_pow k)) (mul-pos (pow_pos k) (pow_pos k))

pub sq_mul : (a b : ℕ) → a * b * (a * b) ≡ a * a * (b * b)
sq_mul a b = mul_assoc a b (a * b) ∙ ap (λ (x : ℕ). a * x) (mul_left_comm b a b) ∙ sym (mul_assoc a a (b * b))

pub sq_pow : (a k : ℕ) → a * 2 ^ k * (a * 2 ^ k) ≡ a * a * 4 ^ k
sq_pow a k = sq_mul a (2 ^ k) ∙ ap (λ (x : ℕ). a * a * x) (sym (four_pow k))

-- squares are in the order of their roots
pub sq_lt : (a b : ℕ) → a < b → a * a < b * b
sq_lt a b h = lt_of_le_of_lt (mul-le-mul_left a (le_of_lt h)) (mul-lt-mul_of_pos_right h (lt_of_le_of_lt zero-le h))

pub sq_lt_back : (a b : ℕ) → a * a < b * b → a < b
sq_lt_back a b h = lt_of_not-le (λ (g : b ≤ a). lt_irrefl (a * a) (lt_of_lt_of_le h (mul-le-mul g g)))

-- no other number is so
pub root_only : (n r : ℕ) → IsRoot n r → r ≡ root n
root_only n r h =
    let t = root n in
    let k = root_is n in
    le_antisymm (below r t (sq_lt_back r (t + 1) (lt_of_le_of_lt h.0 k.1))) (below t r (sq_lt_back t (r + 1) (lt_of_le_of_lt k.0 h.1)))
  where
    below : (a b : ℕ) → a < b + 1 → a ≤ b
    below a b g = omega arith
