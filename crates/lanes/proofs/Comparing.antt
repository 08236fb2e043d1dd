-- What a subtraction leaves of marks tells how the lanes compare. Assumes nothing.
use mathlib.Core.Path.{◌≡◌, ◌∙◌}
use Prim.Native.Nat.{ℕ, ◌+◌, ◌-◌, ◌^◌, ◌≤◌, ◌<◌}
use native.Mathlib.Omega.{arith}
use lib.Dec.{leb, eqb}
use lib.Bits.{bit_and, bit_or, bit_xor, xor_self, xor_lt, or_shifted_r}
use borrow.Author.Tests.{leb-true, leb-false, eqb-true, eqb-false}
use Rattle.lanes.specs.Inner.Lanes.{lane, half, marked, Low}
use Rattle.lanes.proofs.Carry.{lane_sub, sub-fits}
use Rattle.lanes.proofs.Digits.{lane_and, lane_or, lane_xor, xor_none}
use Rattle.lanes.proofs.Marking.{tested, tops, lane_tops, mark_below, mark_above}

module _ (a b : ℕ) (la : Low a) (lb : Low b) where
  -- ---- the mark less what differs

  apart_low : (j : ℕ) → j < 4 → lane (bit_xor a b) j < half
  apart_low j l = rw (lane_xor a b j) (xor_lt 15 (lane a j) (lane b j) (la.each j l) (lb.each j l))

  apart_enough : (j : ℕ) → j < 4 → lane (bit_xor a b) j ≤ lane tops j
  apart_enough j l = rw (lane_tops j l) (omega (arith, apart_low j l))

  module _ (wa : a < 2 ^ 64) (wb : b < 2 ^ 64) where
    word : bit_xor a b < 2 ^ 64
    word = xor_lt 64 a b wa wb

    pub same_fits : bit_xor a b ≤ tops
    same_fits = sub-fits tops (bit_xor a b) word apart_enough

    apart_left : (j : ℕ) → j < 4 → lane (tops - bit_xor a b) j ≡ half - bit_xor (lane a j) (lane b j)
    apart_left j l = lane_sub tops (bit_xor a b) word apart_enough j l ∙ rw (lane_tops j l, lane_xor a b j)

    pub same_told : (j : ℕ) → j < 4 → lane (bit_and (tops - bit_xor a b) tops) j ≡ marked (eqb (lane a j) (lane b j))
    same_told j l =
        lane_and (tops - bit_xor a b) tops j
        ∙ rw (lane_tops j l, apart_left j l) (told (lane a j) (lane b j) (rw (lane_xor a b j) at (apart_low j l)))
      where
        told : (x y : ℕ) → bit_xor x y < half → bit_and (half - bit_xor x y) half ≡ marked (eqb x y)
        told x y f =
            tested (eqb x y)
            (λ e. let z : bit_xor x y ≡ 0 = rw (eqb-true x y e) (xor_self y) in rw (e, z))
            (λ e. rw e (mark_below (half - bit_xor x y) (less (λ z. eqb-false x y e (xor_none x y z)))))
          where
            less : (bit_xor x y ≡ 0 → ⊥) → half - bit_xor x y < half
            less n = omega arith

  -- ---- the mark borrowed from

  raised : (j : ℕ) → j < 4 → lane (bit_or a tops) j ≡ half + lane a j
  raised j l = lane_or a tops j ∙ rw (lane_tops j l) (or_shifted_r 1 15 (lane a j) (la.each j l))

  raised_enough : (j : ℕ) → j < 4 → lane b j ≤ lane (bit_or a tops) j
  raised_enough j l = omega (arith, raised j l, lb.each j l)

  module _ (word : b < 2 ^ 64) where
    pub at_least_fits : b ≤ bit_or a tops
    at_least_fits = sub-fits (bit_or a tops) b word raised_enough

    raised_left : (j : ℕ) → j < 4 → lane (bit_or a tops - b) j ≡ half + lane a j - lane b j
    raised_left j l = lane_sub (bit_or a tops) b word raised_enough j l ∙ rw (raised j l)

    pub at_least_told : (j : ℕ) → j < 4 → lane (bit_and (bit_or a tops - b) tops) j ≡ marked (leb (lane b j) (lane a j))
    at_least_told j l =
        lane_and (bit_or a tops - b) tops j
        ∙ rw (lane_tops j l, raised_left j l) (told (lane a j) (lane b j) (la.each j l))
      where
        told : (x y : ℕ) → x < half → bit_and (half + x - y) half ≡ marked (leb y x)
        told x y f =
            tested (leb y x)
            (λ e. rw e (mark_above (half + x - y) (omega (arith, leb-true y x e)) (omega arith)))
            (λ e. rw e (mark_below (half + x - y) (omega (arith, leb-false y x e))))
