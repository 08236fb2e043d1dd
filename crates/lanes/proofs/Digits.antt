-- Operations on bits are those of the lanes. Assumes nothing.
use mathlib.Core.Path.{◌≡◌, refl, ap, ◌∙◌}
use Prim.Native.Nat.{ℕ, zero, suc, ◌+◌, ◌*◌, ◌/◌, ◌%◌, ◌^◌, ◌<◌}
use native.Mathlib.Omega.{arith}
use lib.Pow.{shr_lt}
use lib.Bits.{bit_and, bit_or, bit_xor, differ, and_shr, or_shr, xor_shr, and_mod, or_mod, xor_mod, and_le_l, and_le_r, xor_step, xor_add_and}
use Rattle.lanes.specs.Inner.Lanes.{lane}

module _ (a b j : ℕ) where
  pub lane_and : lane (bit_and a b) j ≡ bit_and (lane a j) (lane b j)
  unfolding lane
  lane_and = ap (λ (n : ℕ). n % 65536) (and_shr a b (16 * j)) ∙ and_mod (a / 2 ^ (16 * j)) (b / 2 ^ (16 * j)) 16

  pub lane_or : lane (bit_or a b) j ≡ bit_or (lane a j) (lane b j)
  unfolding lane
  lane_or = ap (λ (n : ℕ). n % 65536) (or_shr a b (16 * j)) ∙ or_mod (a / 2 ^ (16 * j)) (b / 2 ^ (16 * j)) 16

  pub lane_xor : lane (bit_xor a b) j ≡ bit_xor (lane a j) (lane b j)
  unfolding lane
  lane_xor = ap (λ (n : ℕ). n % 65536) (xor_shr a b (16 * j)) ∙ xor_mod (a / 2 ^ (16 * j)) (b / 2 ^ (16 * j)) 16

-- what differs nowhere is the same
pub xor_none : (a b : ℕ) → bit_xor a b ≡ 0 → a ≡ b
xor_none a b e = omega (arith, xor_add_and a b, and_le_l a b, and_le_r a b)

-- b against what tells a from b is a
pub xor_back : (k a b : ℕ) → a < 2 ^ k → b < 2 ^ k → bit_xor b (bit_xor a b) ≡ a
xor_back zero a b la lb =
    let e : a ≡ 0 = omega arith in
    let f : b ≡ 0 = omega arith in
    rw (e, f)
xor_back (suc k) a b la lb =
    let h : bit_xor (b / 2) (bit_xor (a / 2) (b / 2)) ≡ a / 2 = xor_back k (a / 2) (b / 2) (shr_lt k 1 (rw one at la)) (shr_lt k 1 (rw one at lb)) in
    xor_step b (bit_xor a b) ∙ rw (xor_shr a b 1, h, xor_mod a b 1, digit_back (a % 2) (b % 2) (omega arith) (omega arith)) (omega arith)
  where
    one : suc k ≡ k + 1
    one = omega arith

    digit_back : (m n : ℕ) → m < 2 → n < 2 → differ n (bit_xor m n) ≡ m
    digit_back zero zero l h = refl
    digit_back zero (suc zero) l h = refl
    digit_back (suc zero) zero l h = refl
    digit_back (suc zero) (suc zero) l h = refl
    digit_back (suc (suc m)) n l h = absurd (omega arith)
    digit_back zero (suc (suc n)) l h = absurd (omega arith)
    digit_back (suc zero) (suc (suc n)) l h = absurd (omega arith)
