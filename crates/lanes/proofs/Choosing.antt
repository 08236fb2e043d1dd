-- What masks made of marks take and leave in each lane. Assumes nothing.
use mathlib.Core.Path.{◌≡◌, ◌∙◌}
use mathlib.Core.Bool.{Bool, true, false, cond}
use Prim.Native.Nat.{ℕ, ◌+◌, ◌-◌, ◌*◌, ◌/◌, ◌^◌, ◌≤◌, ◌<◌, max}
use native.Mathlib.Omega.{arith}
use lib.Dec.{leb}
use lib.Bits.{bit_and, bit_or, bit_xor, and_zero_r, and_mask, or_zero_r, or_step, xor_zero_r, xor_lt}
use borrow.Author.Tests.{leb-true, leb-false}
use Rattle.lanes.specs.Inner.Lanes.{lane, half, marked, Low, Marks, Losable}
use Rattle.lanes.proofs.Carry.{lane_add, lane_sub, sub-fits}
use Rattle.lanes.proofs.Digits.{lane_and, lane_or, lane_xor, xor_back}
use Rattle.lanes.proofs.Marking.{tested, mark_told, ones_of, one_of}

-- ---- a mark less its lowest digit

module _ (w : ℕ) (word : w < 2 ^ 64) (m : Marks w) where
  ones_word : w / 32768 < 2 ^ 64
  ones_word = omega arith

  ones_enough : (j : ℕ) → j < 4 → lane (w / 32768) j ≤ lane w j
  ones_enough j l = rw (ones_of w word m j l) (omega arith)

  mask_lane : (j : ℕ) → j < 4 → (t : Bool) → lane w j ≡ marked t → lane (w - w / 32768) j ≡ cond t 32767 0
  mask_lane j l true e = lane_sub w (w / 32768) ones_word ones_enough j l ∙ rw (e, one_of w word m j l true e)
  mask_lane j l false e = lane_sub w (w / 32768) ones_word ones_enough j l ∙ rw (e, one_of w word m j l false e)

  pub picked : (a b : ℕ) → Low a → Low b → (j : ℕ) → j < 4 → (t : Bool) → lane w j ≡ marked t
      → lane (bit_xor b (bit_and (bit_xor a b) (w - w / 32768))) j ≡ cond t (lane a j) (lane b j)
  picked a b la lb j l t e =
      lane_xor b (bit_and (bit_xor a b) (w - w / 32768)) j
      ∙ rw (lane_and (bit_xor a b) (w - w / 32768) j, lane_xor a b j, mask_lane j l t e) (chosen t (lane a j) (lane b j) (la.each j l) (lb.each j l))
    where
      all : (x : ℕ) → x < 32768 → bit_and x 32767 ≡ x
      all x f = and_mask x 15 ∙ omega arith

      chosen : (t : Bool) (x y : ℕ) → x < half → y < half → bit_xor y (bit_and (bit_xor x y) (cond t 32767 0)) ≡ cond t x y
      chosen true x y f g = rw (all (bit_xor x y) (xor_lt 15 x y f g)) (xor_back 15 x y f g)
      chosen false x y f g = rw (and_zero_r (bit_xor x y)) (xor_zero_r y)

pub larger_told : (x y : ℕ) → cond (leb y x) x y ≡ max x y
larger_told x y = tested (leb y x) (λ e. rw e (omega (arith, leb-true y x e))) (λ e. rw e (omega (arith, leb-false y x e)))

-- ---- three less

module _ (w m : ℕ) (word : w < 2 ^ 64) (h : Losable w m) where
  one : (j : ℕ) → j < 4 → (t : Bool) → lane w j ≡ marked t → lane (w / 32768) j ≡ cond t 1 0
  one = one_of w word h.marks_are

  small : (j : ℕ) → j < 4 → lane (w / 32768) j ≤ 1
  small j l = bit (mark_told w h.marks_are j l).0 (one j l (mark_told w h.marks_are j l).0 (mark_told w h.marks_are j l).1)
    where
      bit : {x : ℕ} (t : Bool) → x ≡ cond t 1 0 → x ≤ 1
      bit true f = omega arith
      bit false f = omega arith

  thrice : (j : ℕ) → j < 4 → lane (3 * (w / 32768)) j ≡ 3 * lane (w / 32768) j
  thrice j l =
      let f : 3 * (w / 32768) ≡ w / 32768 + (w / 32768 + w / 32768) = omega arith in
      let d : (i : ℕ) → i < 4 → lane (w / 32768 + w / 32768) i ≡ lane (w / 32768) i + lane (w / 32768) i =
      lane_add (w / 32768) (w / 32768) (λ i k. omega (arith, small i k)) in
      rw f (lane_add (w / 32768) (w / 32768 + w / 32768) (λ i k. omega (arith, small i k, d i k)) j l ∙ omega (arith, d j l))

  or_one : (x : ℕ) → bit_or x 1 ≡ x / 2 * 2 + 1
  or_one x = or_step x 1 ∙ rw (or_zero_r (x / 2)) (omega arith)

  filled : (j : ℕ) → j < 4 → (t : Bool) → lane w j ≡ marked t → lane (bit_or m (w / 32768)) j ≡ cond t (lane m j / 2 * 2 + 1) (lane m j)
  filled j l true k = lane_or m (w / 32768) j ∙ rw (one j l true k) (or_one (lane m j))
  filled j l false k = lane_or m (w / 32768) j ∙ rw (one j l false k) (or_zero_r (lane m j))

  lost_enough : (j : ℕ) → j < 4 → lane (3 * (w / 32768)) j ≤ lane (bit_or m (w / 32768)) j
  lost_enough j l = go (mark_told w h.marks_are j l).0 (mark_told w h.marks_are j l).1
    where
      go : (t : Bool) → lane w j ≡ marked t → lane (3 * (w / 32768)) j ≤ lane (bit_or m (w / 32768)) j
      go true k = omega (arith, thrice j l, one j l true k, filled j l true k, h.enough j l k)
      go false k = omega (arith, thrice j l, one j l false k)

  lost_word : 3 * (w / 32768) < 2 ^ 64
  lost_word = omega arith

  pub lose_fits : 3 * (w / 32768) ≤ bit_or m (w / 32768)
  lose_fits = sub-fits (bit_or m (w / 32768)) (3 * (w / 32768)) lost_word lost_enough

  pub lost : (j : ℕ) → j < 4 → (t : Bool) → lane w j ≡ marked t → lane (bit_or m (w / 32768) - 3 * (w / 32768)) j ≡ cond t (lane m j / 2 * 2 - 2) (lane m j)
  lost j l t k = lane_sub (bit_or m (w / 32768)) (3 * (w / 32768)) lost_word lost_enough j l ∙ go t k
    where
      go : (t : Bool) → lane w j ≡ marked t → lane (bit_or m (w / 32768)) j - lane (3 * (w / 32768)) j ≡ cond t (lane m j / 2 * 2 - 2) (lane m j)
      go true k = omega (arith, thrice j l, one j l true k, filled j l true k)
      go false k = omega (arith, thrice j l, one j l false k, filled j l false k)
