-- The ones of a window as it rolls on, the ring of the latest bits, and what a window of bits says. Assumes nothing.
use mathlib.Core.Path.{◌≡◌, refl, ap, ◌∙◌}
use mathlib.Core.Bool.{cond}
use mathlib.Core.List.{List}
use Prim.Native.Nat.{ℕ, ◌+◌, ◌-◌, ◌%◌, ◌≤◌, ◌<◌}
use native.Mathlib.Omega.{arith}
use lib.Dec.{leb, ltb}
use lib.ListN.{length, get_or, set, drop, replicate, length-take, length-drop, length-set, length-replicate, get_or-replicate}
use lib.Seq.{get_or-take, get_or-drop, get_or-set_same, get_or-set_other}
use borrow.Author.Tests.{leb-true, leb-false}
use Rattle.race.specs.Race.{silent, says}
use Rattle.race.specs.Inner.Held.{heard, heard_from}
use Rattle.race.proofs.Cases.{tested, same?}
use Rattle.mcw_bits.specs.Inner.Counts.{before}
use Rattle.mcw_bits.specs.Commonest.{occurrences, commonest, window}
use Rattle.mcw_bits.specs.Mcw.{size, said}
use Rattle.mcw_bits.specs.Inner.Ones.{Ones, AllOnes, Ring, past_in, Rolled, Rolls, AllRoll, majority_of, Small}
use Rattle.mcw_bits.specs.Inner.Say.{Sayings, say_of}
use Rattle.mcw_bits.proofs.Counting.{before_same, before_other, before_le, before_mono, occ_part}
use Rattle.mcw_bits.proofs.Commonest.{bit_zero, bits_commonest}
use Rattle.capture.specs.Inner.Sources.{AreBits}
use Rattle.mcw_bits.proofs.Place.{four}

size_some : (j : ℕ) → j < 4 → 0 < size j
size_some = four (λ (j : ℕ). 0 < size j) (omega arith) (omega arith) (omega arith) (omega arith)

size_near : (j : ℕ) → j < 4 → size j < 4096
size_near = four (λ (j : ℕ). size j < 4096) (omega arith) (omega arith) (omega arith) (omega arith)

bit_before : (s : List ℕ) (i : ℕ) → i < length s → get_or s i 0 < 2 → before s 1 (i + 1) ≡ before s 1 i + get_or s i 0
bit_before s i h b =
    same? (get_or s i 0) 1
    (λ e. omega (arith, before_same s 1 i h e))
    (λ e. omega (arith, before_other s 1 i h e, bit_zero (get_or s i 0) b e))

-- the ring
pub ring_start : (s : List ℕ) → Ring s 0 (replicate 4096 0)
ring_start s =
    record { full = length-replicate {A = ℕ} 4096 0; past = λ q l _. absurd (omega arith); blank = λ q _ l. get_or-replicate {A = ℕ} 4096 q 0 0 l }

module _ {s : List ℕ} {i : ℕ} {ring : List ℕ} (R : Ring s i ring) where
  spot_fits : i % 4096 < length ring
  spot_fits = omega (arith, R.full)

  pub ring_next : {x : ℕ} → x ≡ get_or s i 0 → Ring s (i + 1) (set ring (i % 4096) x)
  ring_next {x} e = record { full = length-set ring (i % 4096) x ∙ R.full; past = past; blank = blank }
    where
      past : (q : ℕ) → q < i + 1 → i + 1 ≤ q + 4096 → get_or (set ring (i % 4096) x) (q % 4096) 0 ≡ get_or s q 0
      past q l m =
          same? q i
          (λ w. rw (w, get_or-set_same ring (i % 4096) x 0 spot_fits) e)
          (λ w. get_or-set_other ring (i % 4096) (q % 4096) x 0 (λ z. absurd (omega arith)) ∙ R.past q (omega arith) (omega arith))

      blank : (q : ℕ) → i + 1 ≤ q → q < 4096 → get_or (set ring (i % 4096) x) q 0 ≡ 0
      blank q l m = get_or-set_other ring (i % 4096) q x 0 (λ z. absurd (omega arith)) ∙ R.blank q (omega arith) m

  -- what leaves a window
  module _ (B : AreBits s) (h : i < length s) (w : ℕ) (some : 0 < w) (near : w < 4096) where
    pub leaves : before s 1 (i + 1 - w) ≡ before s 1 (i - w) + past_in ring i w
    leaves =
        tested (leb w i)
        (λ t. let l : w ≤ i = leb-true w i t in
        let a : (i + 4096 - w) % 4096 ≡ (i - w) % 4096 = omega arith in
        let b : i + 1 - w ≡ i - w + 1 = omega arith in
        rw (a, b, R.past (i - w) (omega arith) (omega arith)) (bit_before s (i - w) (omega arith) (B.below (i - w) (omega arith))))
        (λ t. let l : i < w = leb-false w i t in
        let a : (i + 4096 - w) % 4096 ≡ i + 4096 - w = omega arith in
        let b : i + 1 - w ≡ i - w = omega arith in
        rw (a, b, R.blank (i + 4096 - w) (omega arith) (omega arith)) (omega arith))

    module _ {c x : ℕ} (O : Ones s i w c) (e : x ≡ get_or s i 0) where
      comes : before s 1 (i + 1) ≡ before s 1 i + x
      comes = omega (arith, bit_before s i h (B.below i h))

      pub rolls : Rolls c ring i w x
      rolls =
          record {
            near = omega arith;
            soon = omega (arith, B.short);
            small = omega (arith, O.count, before_le s 1 i, B.short, B.below i h);
            has = omega (arith, O.count, comes, leaves, before_mono s 1 (i + 1 - w) (i + 1) (omega arith));
          }

      pub rolls_on : Ones s (i + 1) w (c + x - past_in ring i w)
      rolls_on = record { count = omega (arith, O.count, comes, leaves, rolls.has) }

-- a window's vote is heard as it is said
module _ {s : List ℕ} {i : ℕ} (B : AreBits s) (h : i ≤ length s) (m : ℕ) {c : ℕ} (O : Ones s i (m + m + 1) c) where
  small_ones : c < 4294967296
  small_ones = omega (arith, O.count, before_le s 1 i, B.short)

  -- the window has c ones
  window_ones : m + m + 1 ≤ i → occurrences 1 (window s i (m + m + 1)) ≡ c
  window_ones l =
      let f : i - (m + m + 1) + (m + m + 1) ≡ i = omega arith in
      let g : occurrences 1 (window s i (m + m + 1)) + before s 1 (i - (m + m + 1)) ≡ before s 1 i = rw f at (occ_part s 1 (i - (m + m + 1)) (m + m + 1)) in
      omega (arith, O.count)

  window_length : m + m + 1 ≤ i → length (window s i (m + m + 1)) ≡ m + m + 1
  window_length l = omega (arith, length-take (m + m + 1) (drop (i - (m + m + 1)) s), length-drop (i - (m + m + 1)) s)

  window_bit : m + m + 1 ≤ i → (q : ℕ) → q < length (window s i (m + m + 1)) → get_or (window s i (m + m + 1)) q 0 < 2
  window_bit l q k =
      let k' : q < m + m + 1 = omega (arith, window_length l) in
      rw (get_or-take, get_or-drop) (B.below (i - (m + m + 1) + q) (omega arith))

  vote_says : m + m + 1 ≤ i → commonest (window s i (m + m + 1)) ≡ majority_of c (m + m + 1)
  vote_says l = rw (← window_ones l) (bits_commonest (window s i (m + m + 1)) m (window_length l) (window_bit l))

  vote_heard : heard (say_of (majority_of c (m + m + 1)) i (m + m + 1)) ≡ cond (leb (m + m + 1) i) (says (commonest (window s i (m + m + 1)))) silent
  vote_heard =
      tested (leb (m + m + 1) i)
      (λ t. rw (t, vote_says (leb-true (m + m + 1) i t)) (tested (ltb (m + m + 1) (c + c)) (λ u. rw u) (λ u. rw u)))
      (λ t. rw t)

-- of each window, by its place
module _ {s : List ℕ} {i : ℕ} {ones : List ℕ} (B : AreBits s) (A : AllOnes s i ones) where
  pub votes_heard : i ≤ length s → {gs : List ℕ} → Sayings ones i gs → (j : ℕ) → j < 4 → heard_from gs j ≡ said s i j
  unfolding said
  votes_heard h {gs} S j l =
      ap heard (S.each j l)
      ∙ four (λ (j : ℕ). heard (say_of (majority_of (get_or ones j 0) (size j)) i (size j)) ≡ cond (leb (size j) i) (says (commonest (window s i (size j)))) silent)
      (vote_heard B h 31 (A.each 0 (omega arith))) (vote_heard B h 127 (A.each 1 (omega arith)))
      (vote_heard B h 511 (A.each 2 (omega arith))) (vote_heard B h 2047 (A.each 3 (omega arith)))
      j l

  pub ones_small : i ≤ length s → Small ones
  ones_small h =
      record {
        full = A.full;
        each =
            four (λ (j : ℕ). get_or ones j 0 < 4611686018427387904)
            (omega (arith, small_ones B h 31 (A.each 0 (omega arith)))) (omega (arith, small_ones B h 127 (A.each 1 (omega arith))))
            (omega (arith, small_ones B h 511 (A.each 2 (omega arith)))) (omega (arith, small_ones B h 2047 (A.each 3 (omega arith))));
      }

  module _ {ring : List ℕ} (R : Ring s i ring) (h : i < length s) {x : ℕ} (e : x ≡ get_or s i 0) where
    pub all_roll : AllRoll ones ring i x
    all_roll = record { full = A.full; each = λ j l. rolls R B h (size j) (size_some j l) (size_near j l) (A.each j l) e }

    pub all_rolled : {next : List ℕ} → Rolled ones ring i x 4 next → AllOnes s (i + 1) next
    all_rolled N =
        record {
          full = N.full;
          each = λ j l. rw (N.past j l) (rolls_on R B h (size j) (size_some j l) (size_near j l) (A.each j l) e);
        }

none_yet : (s : List ℕ) (w : ℕ) → Ones s 0 w 0
unfolding occurrences
none_yet s w = let z : 0 - w ≡ 0 = omega arith in record { count = rw z }

pub ones_start : (s : List ℕ) → AllOnes s 0 (replicate 4 0)
ones_start s = record { full = refl; each = four (λ (j : ℕ). Ones s 0 (size j) (get_or (replicate 4 0) j 0)) (none_yet s _) (none_yet s _) (none_yet s _) (none_yet s _) }
