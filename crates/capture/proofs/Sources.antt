-- A walk over a source by counting gives its bits, one after the other: the place of the next bit is at * width + (width - 1 - after), and a step goes on
-- to the place after. Assumes nothing.
use mathlib.Core.Path.{◌≡◌, refl, ap, ◌∙◌}
use mathlib.Core.List.{List, [], ◌∷◌}
use Prim.Native.Nat.{ℕ, suc, ◌+◌, ◌-◌, ◌*◌, ◌/◌, ◌%◌, ◌^◌, ◌≤◌, ◌<◌}
use native.Mathlib.Nat.{le_refl, mul-le-mul_right, suc-mul}
use native.Mathlib.Omega.{arith}
use lib.ListN.{length, get_or, drop, drop_of_length-le}
use lib.Seq.{drop-cons}
use Rattle.std.proofs.Common.{add-one}
use Rattle.capture.specs.Bits.{bit_at, bits_of, all_bits}
use Rattle.capture.specs.Inner.Sources.{AreBits, IsSource, IsWalk, bits_left}
use Rattle.capture.proofs.Bitstring.{bits_length, bits_at, bits_narrow, bit_small}
use Rattle.capture.proofs.Limits.{source_short}
use Rattle.capture.proofs.Walking.{quotient_is, remainder_is}

module _ (s : List ℕ) (w : ℕ) where
  pub all_length : length (all_bits s w) ≡ length s * w
  unfolding all_bits
  all_length = bits_length s w (length s * w)

  pub all_at : (i : ℕ) → i < length s * w → get_or (all_bits s w) i 0 ≡ bit_at s w i
  unfolding all_bits
  all_at i h = bits_at s w (length s * w) i h

  -- the bit with `after` others of byte `at` after it
  bit_there : (at after : ℕ) → after < w → bit_at s w (at * w + (w - 1 - after)) ≡ get_or s at 0 / 2 ^ after % 2
  unfolding bit_at
  bit_there at after h =
      let r : w - 1 - after < w = omega arith in
      let q : (at * w + (w - 1 - after)) / w ≡ at = quotient_is w at (w - 1 - after) r refl in
      let m : (at * w + (w - 1 - after)) % w ≡ w - 1 - after = remainder_is w at (w - 1 - after) r refl in
      let a : w - 1 - (w - 1 - after) ≡ after = omega arith in
      rw (q, m, a)

-- the bits of the whole capture
pub whole : (s : List ℕ) (w : ℕ) → all_bits s w ≡ bits_of s w (length s * w)
unfolding all_bits
whole s w = refl

-- a list of bits is its own source
pub all_narrow : (s : List ℕ) → ((i : ℕ) → i < length s → get_or s i 0 ≤ 1) → all_bits s 1 ≡ s
unfolding all_bits
all_narrow s h = let e : length s * 1 ≡ length s = omega arith in rw e (bits_narrow s h)

-- what counts the bits of a source counts those of its symbols
pub counted : (s : List ℕ) (w : ℕ) {k : ℕ} {t : List ℕ} → k ≡ length t → t ≡ all_bits s w → k ≡ length s * w
counted s w e f = e ∙ ap length f ∙ all_length s w

pub source_bits : {s : List ℕ} {w : ℕ} → IsSource s w → AreBits (all_bits s w)
source_bits {s} {w} S =
    record {
      short = omega (arith, all_length s w, source_short S (le_refl (length s * w)));
      below = λ i h. let inside : i < length s * w = omega (arith, all_length s w) in
          rw (all_at s w i inside) (bit_small s w i);
    }

-- the bits that the walk begins with, and where it ends
pub walk_all : (s : List ℕ) (w : ℕ) → bits_left s w 0 (w - 1) ≡ all_bits s w
unfolding bits_left
walk_all s w = let e : 0 * w + (w - 1 - (w - 1)) ≡ 0 = omega arith in rw e

pub walk_ends : (s : List ℕ) (w at after : ℕ) → length s ≤ at → bits_left s w at after ≡ []
unfolding bits_left
walk_ends s w at after h =
    drop_of_length-le (all_bits s w) (omega (arith, all_length s w, mul-le-mul_right w h))

module _ {s : List ℕ} {w at after : ℕ} (W : IsWalk s w at after) (h : at < length s) where
  goes : bits_left s w at after ≡ get_or s at 0 / 2 ^ after % 2 ∷ drop (at * w + (w - 1 - after) + 1) (all_bits s w)
  unfolding bits_left
  goes =
      let full : suc at * w ≤ length s * w = mul-le-mul_right w h in
      let inside : at * w + (w - 1 - after) < length s * w = omega (arith, suc-mul at w, W.inside) in
      let inside' : at * w + (w - 1 - after) < length (all_bits s w) = omega (arith, all_length s w) in
      rw (add-one, drop-cons (all_bits s w) (at * w + (w - 1 - after)) 0 inside', all_at s w _ inside, bit_there s w at after W.inside)

  -- the last bit of its byte, and any other
  pub walk_last : after ≡ 0 → bits_left s w at after ≡ get_or s at 0 / 2 ^ after % 2 ∷ bits_left s w (at + 1) (w - 1)
  unfolding bits_left
  walk_last e =
      let p : at * w + (w - 1 - after) + 1 ≡ (at + 1) * w + (w - 1 - (w - 1)) = omega (arith, suc-mul at w, W.inside) in
      goes ∙ rw p

  pub walk_inner : 0 < after → bits_left s w at after ≡ get_or s at 0 / 2 ^ after % 2 ∷ bits_left s w at (after - 1)
  unfolding bits_left
  walk_inner e =
      let p : at * w + (w - 1 - after) + 1 ≡ at * w + (w - 1 - (after - 1)) = omega (arith, W.inside) in
      goes ∙ rw p
