-- What the code holds of the windows before a place says what their candidates are, and is as the search and the lanes need it. Assumes nothing.
use mathlib.Core.Path.{◌≡◌, refl, sym, ◌∙◌}
use mathlib.Core.Bool.{Bool, true, false, ◌&&◌, ◌||◌}
use mathlib.Core.List.{List}
use Prim.Native.Nat.{ℕ, ◌+◌, ◌-◌, ◌*◌, ◌≤◌, ◌<◌}
use native.Mathlib.Omega.{arith}
use lib.Dec.{eqb, leb}
use lib.ListN.{length, get_or, replicate, length-replicate, get_or-replicate}
use borrow.Author.Tests.{leb-true}
use Rattle.race.proofs.Cases.{tested}
use Rattle.lanes.specs.Inner.Lanes.{lane}
use Rattle.lanes.proofs.Words.{each_lane, lane_zero}
use Rattle.mcw_bits.specs.Inner.Counts.{before}
use Rattle.mcw_bits.specs.Mcw.{size}
use Rattle.mcw_bits.proofs.Counting.{before_le, before_mono}
use Rattle.mcw_symbols.specs.Inner.Samples.{Samples, last, counts_at, latest_at}
use Rattle.mcw_symbols.specs.Inner.Candidate.{Foremost, Candidate}
use Rattle.mcw_symbols.specs.Inner.Search.{most, held_count, held_place, Settled, Unmoved}
use Rattle.mcw_symbols.specs.Inner.Ask.{LowAll, part_at, Taking, needs, Askable, Asks}
use Rattle.mcw_symbols.specs.Inner.Windows.{Counted, Bytes}
use Rattle.mcw_symbols.specs.Inner.Kept.{Nominated, Kept}
use Rattle.mcw_symbols.specs.declared.Candidates.{Candidates}
use Rattle.mcw_symbols.specs.declared.ask.Heard.{Heard}
use Rattle.mcw_symbols.proofs.Counts.{counted_room}
use Rattle.mcw_symbols.proofs.Leaving.{size_some}
use Rattle.mcw_symbols.proofs.Window.{foremost_found}

pub samples_bytes : {s : List ℕ} {k : ℕ} → Samples s k → Bytes s
samples_bytes S = record { below = λ i l. omega (arith, S.below i l, S.few) }

pub size_most : (j : ℕ) → j < 4 → size j ≤ 4095
size_most = each_lane (λ (j : ℕ). size j ≤ 4095) (omega arith) (omega arith) (omega arith) (omega arith)

-- a lane is twice a count
pub counted_is : {s : List ℕ} {lo : ℕ → ℕ} {hi : ℕ} {cnt : List ℕ} → Counted s lo hi cnt → (y : ℕ) → y < 256 → (j : ℕ) → j < 4 → lo j ≤ hi
    → lane (get_or cnt y 0) j ≡ 2 * (before s y hi - before s y (lo j))
counted_is {s} {lo} {hi} C y b j l h = omega (arith, C.at y b j l, before_mono s y (lo j) hi h)

-- before the first place
pub kept_starts : (s : List ℕ) (k : ℕ) → 0 < k → Kept s k 0 (replicate 256 0) (replicate 256 0) (record { symbols = 0; keys = 0; bounds = 0 })
unfolding last
kept_starts s k p =
    record {
      counted = record { full = length-replicate {A = ℕ} 256 0; at = λ y b j l. rw (get_or-replicate {A = ℕ} 256 y 0 0 b, lane_zero j) (nothing y j) };
      seen = record { full = length-replicate {A = ℕ} 256 0; at = λ y b. get_or-replicate {A = ℕ} 256 y 0 0 b };
      nominated = record { each = λ j l. rw (lane_zero j) (none j); small = λ j l. omega (arith, lane_zero j) };
    }
  where
    nothing : (y n : ℕ) → 0 + 2 * before s y (0 - size n) ≡ 2 * before s y 0
    nothing y n = let e : 0 - size n ≡ 0 = omega arith in rw e (omega arith)

    zero_count : (w y : ℕ) → counts_at s 0 w y ≡ 0
    zero_count w y = omega (arith, before_le s y 0)

    none : (j : ℕ) → Candidate (counts_at s 0 (size j)) (latest_at s 0) k 0 0 0
    none j =
        record {
          within = p;
          least = omega (arith, zero_count (size j) 0);
          most = omega arith;
          latest = λ t. absurd (omega arith);
          bound = λ y _ _. omega (arith, zero_count (size j) y);
        }

module _ {s : List ℕ} {k i : ℕ} {cnt latest : List ℕ} {c : Candidates} (S : Samples s k) (K : Kept s k i cnt latest c) where
  pub count_is : (y : ℕ) → y < 256 → (j : ℕ) → j < 4 → lane (get_or cnt y 0) j ≡ 2 * counts_at s i (size j) y
  count_is y b j l = counted_is K.counted y b j l (omega arith)

  pub kept_room : (y : ℕ) → y < 256 → (j : ℕ) → j < 4 → lane (get_or cnt y 0) j ≤ most
  kept_room = counted_room K.counted (λ j l. omega arith) (λ j l. omega (arith, size_most j l))

  pub kept_low : LowAll c
  kept_low =
      record {
        symbols_low = record { each = λ j l. omega (arith, (K.nominated.each j l).within, S.few) };
        keys_low = record { each = low };
        bounds-low = record { each = λ j l. omega (arith, K.nominated.small j l) };
      }
    where
      low : (j : ℕ) → j < 4 → lane c.keys j < 32768
      low j l =
          let C = K.nominated.each j l in
          let f = lane c.symbols j in
          let b : f < 256 = omega (arith, C.within, S.few) in
          omega (arith, C.most, count_is f b j l, kept_room f b j l)

  pub askable : {x xs : ℕ} → x < k → ((j : ℕ) → j < 4 → lane xs j ≡ x) → Askable cnt latest k c x xs
  askable b X =
      record {
        searchable = record { few = S.few; within = b; cnt_full = K.counted.full; latest_full = K.seen.full; room = kept_room };
        low = kept_low;
        xs_low = record { each = λ j l. omega (arith, X j l, S.few) };
      }

  -- a favourite by the code's counts and places is one by the samples'
  held_foremost : (j : ℕ) → j < 4 → {f : ℕ} → f < k → Foremost (held_count cnt j) (held_place latest) k f → Foremost (counts_at s i (size j)) (latest_at s i) k f
  held_foremost j l {f} b F =
      record {
        no_more = λ y h. omega (arith, F.no_more y h, count_is y (omega (arith, S.few)) j l, count_is f (omega (arith, S.few)) j l);
        no_later = λ y h g. later y h (F.no_later y h (omega (arith, count_is y (omega (arith, S.few)) j l, count_is f (omega (arith, S.few)) j l)));
      }
    where
      later : (y : ℕ) → y < k → get_or latest y 0 ≤ get_or latest f 0 → last s y i ≤ last s f i
      later y h g = omega (arith, K.seen.at y (omega (arith, S.few)), K.seen.at f (omega (arith, S.few)))

  -- a window that is searched has the favourite for its candidate
  settled_candidate : (j : ℕ) → j < 4 → i ≤ length s → size j ≤ i → {r : Candidates} → Settled cnt latest k r j
      → Candidate (counts_at s i (size j)) (latest_at s i) k (lane r.symbols j) (lane r.keys j) (lane r.bounds j)
  settled_candidate j l h full {r} T =
      let f = lane r.symbols j in
      let b = T.favourite_is.within in
      let e : lane (get_or cnt f 0) j ≡ 2 * counts_at s i (size j) f = count_is f (omega (arith, S.few)) j l in
      rw (T.key_is, T.bound_is, e) (foremost_found S h (size_some j l) full b (held_foremost j l b T.favourite_is.foremost))

  unmoved_candidate : (j : ℕ) → j < 4 → {r : Candidates} → Unmoved c r j
      → Candidate (counts_at s i (size j)) (latest_at s i) k (lane r.symbols j) (lane r.keys j) (lane r.bounds j)
  unmoved_candidate j l P = rw (P.symbol_is, P.key_is, P.bound_is) (K.nominated.each j l)

  -- after the search the windows have candidates still
  module _ (h : i ≤ length s) (x : ℕ) {xs taking : ℕ} {r : Heard} (T : Taking taking (part_at i)) (A : Asks cnt latest k c xs (get_or cnt x 0) taking r) where
    needed_full : (j : ℕ) → needs c xs (get_or cnt x 0) j (part_at i j) ≡ true → size j ≤ i
    needed_full j e =
        tested (part_at i j)
        (λ t. leb-true (size j) i t)
        (λ t. let z : ◌≡◌ {A = Bool} false true = sym (no ((leb (lane c.keys j) (lane (get_or cnt x 0) j) || eqb (lane xs j) (lane c.symbols j)) && leb (lane c.keys j) (lane c.bounds j)) (part_at i j) t) ∙ e in
        let y : ◌≡◌ {A = ℕ} 0 1 = cc in absurd (omega arith))
      where
        no : (a b : Bool) → b ≡ false → (a && b) ≡ false
        no true b e = e
        no false b e = refl

    pub asked_nominated : Nominated s k i r.candidates
    asked_nominated = record { each = each; small = small }
      where
        each : (j : ℕ) → j < 4
            → Candidate (counts_at s i (size j)) (latest_at s i) k (lane r.candidates.symbols j) (lane r.candidates.keys j) (lane r.candidates.bounds j)
        each j l =
            tested (needs c xs (get_or cnt x 0) j (part_at i j))
            (λ t. settled_candidate j l h (needed_full j t) (A.settled (part_at i) T j l t))
            (λ t. unmoved_candidate j l (A.others (part_at i) T j l t))

        small : (j : ℕ) → j < 4 → lane r.candidates.bounds j ≤ most
        small j l =
            tested (needs c xs (get_or cnt x 0) j (part_at i j))
            (λ t. let D = A.settled (part_at i) T j l t in
            let f = lane r.candidates.symbols j in
            rw D.bound_is (kept_room f (omega (arith, D.favourite_is.within, S.few)) j l))
            (λ t. rw (A.others (part_at i) T j l t).bound_is (K.nominated.small j l))

    pub asked_kept : Kept s k i cnt latest r.candidates
    asked_kept = record { counted = K.counted; seen = K.seen; nominated = asked_nominated }
