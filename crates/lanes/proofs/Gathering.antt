-- The four marks of a word beside each other. Assumes nothing.
use mathlib.Core.Path.{◌≡◌, refl, ap, ◌∙◌}
use mathlib.Core.Bool.{Bool, true, false, cond}
use mathlib.Core.Logic.{◌⊎◌, inl, inr}
use Prim.Native.Nat.{ℕ, ◌+◌, ◌*◌, ◌/◌, ◌%◌, ◌^◌, ◌≤◌, ◌<◌}
use native.Mathlib.Omega.{arith}
use lib.Bits.{bit_and, bit_or, and_mask, mask_lt, or_mod, or_shifted_r}
use Rattle.lanes.specs.Inner.Lanes.{lane, half, marked, Marks}
use Rattle.lanes.proofs.Words.{each_lane, lane_sum}

-- the code's four shifts, one on another
abbrev pub laid : ℕ → ℕ
laid w = bit_or (bit_or (bit_or (w / 32768) (w / 1073741824)) (w / 35184372088832)) (w / 1152921504606846976)

pub gather_lt : (w : ℕ) → bit_and (laid w) 15 < 16
gather_lt w = mask_lt (laid w) 4

-- digits beside each other
beside : (a b c d : ℕ) → a ≤ 1 → b ≤ 1 → c ≤ 1 → d ≤ 1 → bit_or (bit_or (bit_or a (b * 2)) (c * 4)) (d * 8) ≡ d * 8 + (c * 4 + (b * 2 + a))
beside a b c d la lb lc ld =
    rw (or_shifted_r b 1 a (omega arith), or_shifted_r c 2 (b * 2 + a) (omega arith)) (or_shifted_r d 3 (c * 4 + (b * 2 + a)) (omega arith))

-- where each shift brings its own mark: a, b, c and d are 1 for a mark and 0 for none
module _ (w a b c d : ℕ) (la : a ≤ 1) (lb : b ≤ 1) (lc : c ≤ 1) (ld : d ≤ 1)
    (e : w ≡ ((d * 32768 * 65536 + c * 32768) * 65536 + b * 32768) * 65536 + a * 32768) where
  first : w / 32768 % 16 ≡ a
  first = omega arith

  second : w / 1073741824 % 16 ≡ b * 2
  second = omega arith

  third : w / 35184372088832 % 16 ≡ c * 4
  third = omega arith

  fourth : w / 1152921504606846976 % 16 ≡ d * 8
  fourth = omega arith

  gathered : bit_and (laid w) 15 ≡ d * 8 + (c * 4 + (b * 2 + a))
  gathered =
      and_mask (laid w) 4
      ∙ or_mod (bit_or (bit_or (w / 32768) (w / 1073741824)) (w / 35184372088832)) (w / 1152921504606846976) 4
      ∙ rw (or_mod (bit_or (w / 32768) (w / 1073741824)) (w / 35184372088832) 4, or_mod (w / 32768) (w / 1073741824) 4, first, second, third, fourth)
      (beside a b c d la lb lc ld)

module _ (w : ℕ) (word : w < 2 ^ 64) (m : Marks w) where
  bit_small : (j : ℕ) → j < 4 → (lane w j / 32768 ≤ 1) × (lane w j ≡ lane w j / 32768 * 32768)
  bit_small j l = small (m.each j l)
    where
      small : {x : ℕ} → (x ≡ 0) ⊎ (x ≡ half) → (x / 32768 ≤ 1) × (x ≡ x / 32768 * 32768)
      small (inl e) = (rw e (omega arith), rw e)
      small (inr e) = (rw e (omega arith), rw e)

  all : bit_and (laid w) 15 ≡ lane w 3 / 32768 * 8 + (lane w 2 / 32768 * 4 + (lane w 1 / 32768 * 2 + lane w 0 / 32768))
  all =
      let p = bit_small 0 (omega arith) in
      let q = bit_small 1 (omega arith) in
      let r = bit_small 2 (omega arith) in
      let s = bit_small 3 (omega arith) in
      gathered w (lane w 0 / 32768) (lane w 1 / 32768) (lane w 2 / 32768) (lane w 3 / 32768) p.0 q.0 r.0 s.0
      (lane_sum w word ∙ sums p.1 q.1 r.1 s.1)
    where
      sums : {a b c d k l m n : ℕ} → a ≡ k → b ≡ l → c ≡ m → d ≡ n → ((d * 65536 + c) * 65536 + b) * 65536 + a ≡ ((n * 65536 + m) * 65536 + l) * 65536 + k
      sums e f g h = rw (e, f, g, h) refl

  digits : (j : ℕ) → j < 4 → bit_and (laid w) 15 / 2 ^ j % 2 ≡ lane w j / 32768
  digits =
      let p = (bit_small 0 (omega arith)).0 in
      let q = (bit_small 1 (omega arith)).0 in
      let r = (bit_small 2 (omega arith)).0 in
      let s = (bit_small 3 (omega arith)).0 in
      each_lane (λ j. bit_and (laid w) 15 / 2 ^ j % 2 ≡ lane w j / 32768)
      (ap (λ (n : ℕ). n / 1 % 2) all ∙ at_0 (lane w 0 / 32768) (lane w 1 / 32768) (lane w 2 / 32768) (lane w 3 / 32768) p)
      (ap (λ (n : ℕ). n / 2 % 2) all ∙ at_1 (lane w 0 / 32768) (lane w 1 / 32768) (lane w 2 / 32768) (lane w 3 / 32768) p q)
      (ap (λ (n : ℕ). n / 4 % 2) all ∙ at_2 (lane w 0 / 32768) (lane w 1 / 32768) (lane w 2 / 32768) (lane w 3 / 32768) p q r)
      (ap (λ (n : ℕ). n / 8 % 2) all ∙ at_3 (lane w 0 / 32768) (lane w 1 / 32768) (lane w 2 / 32768) (lane w 3 / 32768) p q r s)
    where
      at_0 : (a b c d : ℕ) → a ≤ 1 → (d * 8 + (c * 4 + (b * 2 + a))) / 1 % 2 ≡ a
      at_0 a b c d p = omega arith

      at_1 : (a b c d : ℕ) → a ≤ 1 → b ≤ 1 → (d * 8 + (c * 4 + (b * 2 + a))) / 2 % 2 ≡ b
      at_1 a b c d p q = omega arith

      at_2 : (a b c d : ℕ) → a ≤ 1 → b ≤ 1 → c ≤ 1 → (d * 8 + (c * 4 + (b * 2 + a))) / 4 % 2 ≡ c
      at_2 a b c d p q r = omega arith

      at_3 : (a b c d : ℕ) → a ≤ 1 → b ≤ 1 → c ≤ 1 → d ≤ 1 → (d * 8 + (c * 4 + (b * 2 + a))) / 8 % 2 ≡ d
      at_3 a b c d p q r s = omega arith

  pub gather_told : (j : ℕ) → j < 4 → (t : Bool) → lane w j ≡ marked t → bit_and (laid w) 15 / 2 ^ j % 2 ≡ cond t 1 0
  gather_told j l true e = digits j l ∙ rw e
  gather_told j l false e = digits j l ∙ rw e
