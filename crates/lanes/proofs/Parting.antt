-- A number spread over the lanes, and lanes read and put. Assumes nothing.
use mathlib.Core.Path.{◌≡◌, refl, ◌∙◌}
use mathlib.Core.Bool.{cond}
use Prim.Native.Nat.{ℕ, ◌+◌, ◌-◌, ◌*◌, ◌/◌, ◌%◌, ◌^◌, ◌≤◌, ◌<◌}
use native.Mathlib.Omega.{arith}
use native.Mathlib.Nat.{lt_of_lt_of_le}
use lib.Dec.{eqb}
use lib.Pow.{shl_lt, shl_exact, pow_mono}
use lib.Bits.{bit_and, and_mask, and_high}
use borrow.Author.Tests.{eqb-true}
use Rattle.lanes.specs.Inner.Lanes.{lane}
use Rattle.lanes.proofs.Words.{each_lane, lane_lt, lane_first, low_of, high_of}
use Rattle.lanes.proofs.Carry.{lane_add, add-fits, lane_sub, sub-fits, lane_unit}
use Rattle.lanes.proofs.Digits.{lane_and}
use Rattle.lanes.proofs.Marking.{tested}

-- ---- four lanes at once

module _ (x : ℕ) (l : x < 65536) where
  spread_parts : x * 281479271743489 ≡ ((x * 65536 + x) * 65536 + x) * 65536 + x
  spread_parts = omega arith

  pub spread_told : (j : ℕ) → j < 4 → lane (x * 281479271743489) j ≡ x
  spread_told =
      rw spread_parts
      (each_lane (λ j. lane (((x * 65536 + x) * 65536 + x) * 65536 + x) j ≡ x)
      (low_of ((x * 65536 + x) * 65536 + x) x l)
      (high_of ((x * 65536 + x) * 65536 + x) x 0 l ∙ low_of (x * 65536 + x) x l)
      (high_of ((x * 65536 + x) * 65536 + x) x 1 l ∙ high_of (x * 65536 + x) x 0 l ∙ low_of x x l)
      (high_of ((x * 65536 + x) * 65536 + x) x 2 l ∙ high_of (x * 65536 + x) x 1 l ∙ high_of x x 0 l ∙ lane_first x ∙ omega arith))

evens : (j : ℕ) → j < 4 → lane 18446462594437808126 j ≡ 65534
unfolding lane
evens = each_lane (λ j. lane 18446462594437808126 j ≡ 65534) refl refl refl refl

pub even_told : (a j : ℕ) → j < 4 → lane (bit_and a 18446462594437808126) j ≡ lane a j / 2 * 2
even_told a j l = lane_and a 18446462594437808126 j ∙ rw (evens j l) (and_high (lane a j) 15 1 ∙ omega (arith, lane_lt a j))

-- ---- one lane

pub lane_read : (w at j : ℕ) → at ≡ 16 * j → bit_and (w / 2 ^ at) 65535 ≡ lane w j
unfolding lane
lane_read w at j e = rw e (and_mask (w / 2 ^ (16 * j)) 16)

module _ (w q v : ℕ) (word : w < 2 ^ 64) (l : q < 4) (f : v < 65536) where
  unit_word : (x : ℕ) → x < 65536 → x * 2 ^ (16 * q) < 2 ^ 64
  unit_word x h = lt_of_lt_of_le (shl_lt 16 (16 * q) h) (pow_mono {i = 16 + 16 * q} {j = 64} (omega arith))

  held : (i : ℕ) → lane (lane w q * 2 ^ (16 * q)) i ≡ cond (eqb i q) (lane w q) 0
  held i = lane_unit (lane w q) q i (lane_lt w q)

  held_enough : (i : ℕ) → i < 4 → lane (lane w q * 2 ^ (16 * q)) i ≤ lane w i
  held_enough i h =
      tested (eqb i q)
      (λ e. rw (held i, e, eqb-true i q e) (omega arith))
      (λ e. rw (held i, e) (omega arith))

  pub take_fits : lane w q * 2 ^ (16 * q) ≤ w
  take_fits = sub-fits w (lane w q * 2 ^ (16 * q)) (unit_word (lane w q) (lane_lt w q)) held_enough

  -- the word with nothing in lane q
  bare : (i : ℕ) → i < 4 → lane (w - lane w q * 2 ^ (16 * q)) i ≡ cond (eqb i q) 0 (lane w i)
  bare i h =
      lane_sub w (lane w q * 2 ^ (16 * q)) (unit_word (lane w q) (lane_lt w q)) held_enough i h
      ∙ rw (held i)
      (tested (eqb i q)
      (λ e. rw (e, eqb-true i q e) (omega arith))
      (λ e. rw e (omega arith)))

  fills : (i : ℕ) → i < 4 → lane (w - lane w q * 2 ^ (16 * q)) i + lane (v * 2 ^ (16 * q)) i ≡ cond (eqb i q) v (lane w i)
  fills i h =
      rw (bare i h, lane_unit v q i f)
      (tested (eqb i q) (λ e. rw e (omega arith)) (λ e. rw e (omega arith)))

  fills_fit : (i : ℕ) → i < 4 → lane (w - lane w q * 2 ^ (16 * q)) i + lane (v * 2 ^ (16 * q)) i < 65536
  fills_fit i h = rw (fills i h) (tested (eqb i q) (λ e. rw e f) (λ e. rw e (lane_lt w i)))

  pub fill_fits : w - lane w q * 2 ^ (16 * q) + v * 2 ^ (16 * q) < 2 ^ 64
  fill_fits = add-fits (w - lane w q * 2 ^ (16 * q)) (v * 2 ^ (16 * q)) fills_fit (omega arith) (unit_word v f)

  pub filled : (j : ℕ) → j < 4 → lane (w - lane w q * 2 ^ (16 * q) + v * 2 ^ (16 * q)) j ≡ cond (eqb j q) v (lane w j)
  filled j h = lane_add (w - lane w q * 2 ^ (16 * q)) (v * 2 ^ (16 * q)) fills_fit j h ∙ fills j h

-- the same as the code says it: r is what lane q holds, and nothing is shifted out
module _ (w at q r v : ℕ) (word : w < 2 ^ 64) (e : at ≡ 16 * q) (l : q < 4) (k : r ≡ lane w q) (f : v < 65536) where
  whole : (x : ℕ) → x < 65536 → x * 2 ^ at % 2 ^ 64 ≡ x * 2 ^ (16 * q)
  whole x h = rw e (shl_exact 16 (16 * q) 64 h (omega arith))

  taken : r * 2 ^ at % 2 ^ 64 ≡ lane w q * 2 ^ (16 * q)
  taken = rw k (whole (lane w q) (lane_lt w q))

  pub put_takes : r * 2 ^ at % 2 ^ 64 ≤ w
  put_takes = rw taken (take_fits w q v word l f)

  pub put_fits : w - r * 2 ^ at % 2 ^ 64 + v * 2 ^ at % 2 ^ 64 < 2 ^ 64
  put_fits = rw (taken, whole v f) (fill_fits w q v word l f)

  pub put_told : (j : ℕ) → j < 4 → lane (w - r * 2 ^ at % 2 ^ 64 + v * 2 ^ at % 2 ^ 64) j ≡ cond (eqb j q) v (lane w j)
  put_told j h = rw (taken, whole v f) (filled w q v word l f j h)
