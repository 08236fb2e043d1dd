-- The places, one after the other: the lent numbers keep the levels, and the race goes on. At the end all numbers of the space are cleared.
-- Assumes nothing.
use Prim.Native.Nat.{ℕ, suc, ◌+◌, ◌-◌, ◌*◌, ◌≤◌, ◌<◌}
use mathlib.Core.Path.{◌≡◌, refl, sym, ap, ◌∙◌}
use mathlib.Core.List.{List, ◌++◌}
use native.Mathlib.Omega.{arith}
use lib.ListN.{length, get_or, replicate, drop, length-append, length-drop, length-replicate}
use borrow.Author.Tests.{le-ltb}
use Rattle.std.proofs.lemmas.List.{ext_get_or}
use Rattle.capture.specs.Limit.{symbol_limit}
use Rattle.std.specs.Prelude.{Option}
use Rattle.race.specs.Race.{silent, judge, sample}
use Rattle.race.specs.Inner.Raced.{Raced, Room, heard, heard_from, unraced, raced_on, raced_at, outcome_in}
use Rattle.race.proofs.Standing.{no_score}
use Rattle.race.proofs.Placing.{raced_none, raced_room, raced_place, raced_ends}
use Rattle.mmc_bits.specs.Levels.{levels, first_place}
use Rattle.table.specs.Inner.Table as T
use Rattle.mmc_store.specs.Levels.{level, guess}
use Rattle.mmc_store.specs.Inner.Places.{tables, reached, Held, Spots, Stands, Place, Said}
use Rattle.mmc_store.specs.Mmc.{outcome_of}
use Rattle.mmc_store.specs.Space.{size}
use Rattle.mmc_store.proofs.Small.{limit_is}
use Rattle.mmc_store.proofs.Few.{few_empty}
use Rattle.mmc_store.proofs.Telling.{heard_guess, quiet_guess}
use Rattle.mmc_store.proofs.Parts.{zeros_at, zeros_part}
use Rattle.mmc_store.proofs.Kept.{empty_kept}

-- what the code holds before place i
pub record Run (n cap : ℕ) (s space entries nodes : List ℕ) (race : Raced) (i : ℕ) : Type 0 where
  pub some : 0 < n
  pub short : length s ≤ symbol_limit
  pub bytes : (j : ℕ) → get_or s j 0 < 256
  pub within : i ≤ length s
  pub stands : Stands n cap s i entries nodes space
  pub raced : race ≡ raced_at n first_place (guess cap s) s i

-- ---- k numbers were cleared, and no place is counted
module _ (n cap k : ℕ) (s m : List ℕ) (long : k ≡ suc n * T.size) (clear : m ≡ replicate k 0) where
  long_start : length m ≡ k
  long_start = ap length clear ∙ length-replicate k 0

  table_start : (j : ℕ) → j ≤ n → (length (tables m j) ≡ T.size) × ((a : ℕ) → get_or (tables m j) a 0 ≡ 0)
  table_start j h = zeros_part (suc n) j m (omega arith) (long_start ∙ long) (rw long_start clear)

  reached_start : (l : ℕ) → reached 0 0 l ≡ 0
  reached_start l = rw (le-ltb l 0 (omega arith))

  held_start : Held n cap s 0 0 (replicate n 0) m
  unfolding level
  held_start = record {
    long = long_start ∙ long;
    full = length-replicate n 0;
    kept = empty_kept n s (λ l. (level cap s (reached 0 0 l) (suc l)).places) (tables m) table_start (λ l. rw (reached_start l));
    entries_are = λ l a. zeros_at n l ∙ rw (reached_start l);
    roomy = λ l a. rw (reached_start l, (table_start (suc l) a).1 T.number_at) (few_empty (suc n) cap s (suc l));
  }

  spots_start : Spots n cap (tables m) s 0 (replicate (suc n) 0)
  spots_start = record {
    full = length-replicate (suc n) 0;
    each = λ l a b. absurd (omega arith);
    gone = λ l a b. absurd (omega arith);
    beyond = λ l a. zeros_at (suc n) l;
  }

  pub run_start : {race : Raced} → 0 < n → length s ≤ symbol_limit → ((j : ℕ) → get_or s j 0 < 256) → race ≡ unraced n →
      Run n cap s m (replicate n 0) (replicate (suc n) 0) race 0
  run_start some short bytes r = record {
    some = some;
    short = short;
    bytes = bytes;
    within = omega arith;
    stands = record { held = held_start; spots = spots_start };
    raced = r ∙ raced_none n first_place (guess cap s) (sample s);
  }

-- ---- one place
module _ {n cap : ℕ} {s space es nodes : List ℕ} {race : Raced} {i : ℕ} (r : Run n cap s space es nodes race i) where
  pub run_room : Room race
  run_room = rw r.raced (raced_room n first_place (guess cap s) (sample s) (i - first_place) (omega (arith, r.within, r.short, limit_is)))

  module _ (more : i < length s) where
    pub place_of : Place s i
    place_of = record { within = more; short = r.short; bytes = r.bytes }

    module _ {gs : List (Option ℕ)} (said : Said n cap s i gs) where
      told : (j : ℕ) → j < n → judge (heard_from gs j) (get_or s i 0) ≡ judge (guess cap s i j) (get_or s i 0)
      told j h = ap (λ g. judge g (get_or s i 0)) (ap heard (said.each j h) ∙ heard_guess cap s i j)

      silent_before : i < first_place → (j : ℕ) → j < n → guess cap s i j ≡ silent
      silent_before l j h = sym (heard_guess cap s i j) ∙ ap heard (quiet_guess cap s i j (omega arith))

      pub run_next : {race' : Raced} {space' es' nodes' : List ℕ} → race' ≡ raced_on race gs (get_or s i 0) → Stands n cap s (i + 1) es' nodes' space' →
          Run n cap s space' es' nodes' race' (i + 1)
      run_next q stands = record {
        some = r.some;
        short = r.short;
        bytes = r.bytes;
        within = omega arith;
        stands = stands;
        raced = q ∙ rw r.raced (raced_place n first_place (guess cap s) s r.some i (get_or s i 0) gs said.full told silent_before);
      }

  -- after the last place
  pub run_ends : length s ≤ i → outcome_in race ≡ outcome_of n cap s
  run_ends l = rw r.raced (raced_ends n first_place (guess cap s) s i (omega (arith, r.within)))

-- ---- numbers that are all 0

pub all_zero : (n : ℕ) (xs : List ℕ) → length xs ≡ n → ((j : ℕ) → j < n → get_or xs j 0 ≡ 0) → xs ≡ replicate n 0
all_zero n xs e z =
    ext_get_or 0 xs (replicate n 0) (e ∙ sym (length-replicate {A = ℕ} n 0)) (λ j l. z j (omega arith) ∙ sym (no_score n j))

-- as many as the space has
pub size_is : size levels ≡ 16777216
unfolding size
size_is = refl

-- the first numbers of the space were lent to the run, which left m there
pub lent_long : (m xs : List ℕ) → length m ≡ 11141120 → length xs ≡ 16777216 → length (m ++ drop 11141120 xs) ≡ 16777216
lent_long m xs a b = omega (arith, length-append m (drop 11141120 xs), length-drop 11141120 xs)

-- and then all are cleared
pub cleared : (m xs : List ℕ) {z : List ℕ} → length m ≡ 11141120 → length xs ≡ 16777216 → z ≡ replicate (length (m ++ drop 11141120 xs)) 0
    → z ≡ replicate (size levels) 0
cleared m xs a b e = e ∙ ap (λ (k : ℕ). replicate k 0) (lent_long m xs a b ∙ sym size_is)
