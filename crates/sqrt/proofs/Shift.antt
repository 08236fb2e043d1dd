-- The leading one of a number: how many binary digits the number has, and by how many places it is shifted to have 53. Assumes nothing.
use mathlib.Core.Path.{◌≡◌, sym, ap, ◌∙◌, subst}
use Prim.Native.Nat.{ℕ, suc, ◌+◌, ◌-◌, ◌*◌, ◌%◌, ◌^◌, ◌≤◌, ◌<◌}
use native.Mathlib.Nat.{le_antisymm, le_trans, le_of_eq, lt_of_lt_of_le, lt_of_not-le, lt_irrefl, le_of_suc-le-suc, mul-le-mul_right, mod-eq_of_lt, pow-succ'}
use native.Mathlib.Omega.{arith}
use lib.Pow.{pow-add, pow_mono, shl_lt}
use lib.Count.{count_leading_zeros, leading_length}
use lib.Ieee.{size}
use lib.Ieee.Digits.{size-lt, size-le, size_reaches}
use Rattle.sqrt.proofs.Powers.{joined}

-- a number from 2 ^ a up, and below the next power, has a + 1 digits
pub size_exact : (a n : ℕ) → 2 ^ a ≤ n → n < 2 ^ suc a → size n ≡ suc a
size_exact a n lo hi =
    le_antisymm (size-le n (suc a) hi) (lt_of_not-le (λ (g : size n ≤ a). lt_irrefl n (lt_of_lt_of_le (size-lt n) (le_trans (pow_mono g) lo))))

size_length : (n m : ℕ) → n < 2 ^ m → 2 ^ m ≤ 2 * n + 1 → size n ≡ m
size_length n m lo hi = le_antisymm (size-le n m lo) (le_of_suc-le-suc (lt_of_not-le (λ (g : size n < m). short n m g hi)))
  where
    apart : (n p : ℕ) → n < p → 2 * p ≤ 2 * n + 1 → ⊥
    apart n p h k = omega arith

    short : (n m : ℕ) → suc (size n) ≤ m → 2 ^ m ≤ 2 * n + 1 → ⊥
    short n m g h = apart n (2 ^ size n) (size-lt n) (le_trans (le_of_eq (sym (pow-succ' 2 (size n)))) (le_trans (pow_mono g) h))

-- the leading zeros of a word and the digits of its number make the word
pub zeros_and_size : (n : ℕ) → n < 2 ^ 64 → count_leading_zeros 64 n + size n ≡ 64
zeros_and_size n h =
    let l = leading_length 64 n h in
    ap (λ (m : ℕ). count_leading_zeros 64 n + m) (size_length n l.0 l.2 l.3) ∙ l.1

-- a t above 0 of at most 53 digits, shifted so that it has 53
pub shifted : (t : ℕ) → 0 < t → t < 2 ^ 53 → (53 - size t ≤ 52) × (2 ^ 52 ≤ t * 2 ^ (53 - size t)) × (t * 2 ^ (53 - size t) < 2 ^ 53)
shifted t p h =
    let z = size t in
    let s = 53 - z in
    let most : z ≤ 53 = size-le t 53 h in
    let some : 0 < z = lt_of_not-le (λ (g : z ≤ 0). lt_irrefl t (lt_of_lt_of_le (size-lt t) (le_trans (pow_mono g) p))) in
    let a : z - 1 + s ≡ 52 = omega arith in
    let b : z + s ≡ 53 = omega arith in (
      omega arith,
      subst (λ (x : ℕ). 2 ^ x ≤ t * 2 ^ s) a (le_trans (le_of_eq (pow-add 2 (z - 1) s)) (mul-le-mul_right (2 ^ s) (size_reaches t (z - 1) (omega arith)))),
      subst (λ (x : ℕ). t * 2 ^ s < 2 ^ x) b (shl_lt z s (size-lt t)),
    )

-- the fraction of a subnormal's pattern, shifted by s
abbrev pub Shifted : ℕ → ℕ → Type 0
Shifted t s = (s ≤ 52) × (2 ^ 52 ≤ t * 2 ^ s) × (t * 2 ^ s < 2 ^ 53)

pub shifted_fraction : (t s : ℕ) → 0 < t → t < 2 ^ 52 → s ≡ 53 - size t → Shifted t s
shifted_fraction t s p h e = subst (Shifted t) (sym e) (shifted t p (omega arith))

-- a word's shift loses no digit
pub shifted_word : (t s : ℕ) → Shifted t s → t * 2 ^ s % 2 ^ 64 ≡ t * 2 ^ s
shifted_word t s w = mod-eq_of_lt (lt_of_lt_of_le w.2 (pow_mono {i = 53} {j = 64} (omega arith)))

-- the digits and the place of the leading one stand for the same number
pub low_digits : (t s : ℕ) → s ≤ 52 → t * 2 ^ 52 ≡ t * 2 ^ s * 2 ^ (52 - s)
low_digits t s w = sym (joined t s (52 - s) 52 (omega arith))
