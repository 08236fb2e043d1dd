-- The run from place to place: what the code holds before place i, and how a place moves it. Assumes nothing.
use Prim.Native.Nat.{ℕ, suc, ◌+◌, ◌*◌, ◌-◌, ◌%◌, ◌^◌, ◌≤◌, ◌<◌, min}
use mathlib.Core.Path.{◌≡◌, sym, ap, ◌∙◌}
use mathlib.Core.List.{List, [], ◌∷◌, append-nil}
use native.Mathlib.Omega.{arith}
use native.Mathlib.Numerals.{add-one}
use lib.ListN.{get_or, length, drop, replicate, length-drop, length-replicate, get_or-eq_default}
use lib.Seq.{drop-cons}
use lib.Dec.{ltb}
use borrow.Author.Tests.{ltb-true, ltb-false}
use Rattle.std.proofs.lemmas.List.{drop_all, ext_get_or}
use Rattle.capture.specs.Inner.Sources.{AreBits}
use Rattle.race.specs.Race.{sample}
use Rattle.race.specs.Inner.Raced.{Raced, Room, unraced, judged, outcome_in}
use Rattle.race.proofs.Cases.{tested}
use Rattle.race.proofs.Standing.{no_score}
use Rattle.verdicts.specs.declared.Masks.{Masks}
use Rattle.verdicts.specs.Inner.Racing.{Racing}
use Rattle.verdicts.specs.Inner.Told.{digit, Fair, verdict_in}
use Rattle.verdicts.proofs.Tallying.{told_fair}
use Rattle.verdicts.proofs.Racing.{racing_starts, racing_room, racing_spoke, racing_place, racing_outcome}
use Rattle.mmc_bits.specs.Levels.{levels, cap, first_place}
use Rattle.mmc_bits.specs.Counters.{context}
use Rattle.mmc_bits.specs.Guesses.{guess}
use Rattle.mmc_bits.specs.Space.{span, size}
use Rattle.mmc_bits.specs.Mmc.{outcome_of}
use Rattle.mmc_bits.specs.Inner.Steps.{Bits, Before, After, distinct}
use Rattle.mmc_bits.proofs.Counting.{distinct_early}
use Rattle.mmc_bits.proofs.Room.{context_lt}
use Rattle.mmc_bits.proofs.Contexts.{context_none, rolled}
use Rattle.mmc_bits.proofs.Parts.{span_cleared}
use Rattle.mmc_bits.proofs.Stepping.{size_is}
use Rattle.mmc_bits.proofs.Guessing.{guess_late}

are_bits : {b : List ℕ} → AreBits b → Bits b
are_bits {b} B j = tested (ltb j (length b))
    (λ t. B.below j (ltb-true _ _ t))
    (λ t. omega (arith, get_or-eq_default b 0 {n = j} (ltb-false _ _ t)))

-- the counters are all that is lent
none_behind : (xs : List ℕ) → length xs ≡ 262140 → drop (size levels) xs ≡ []
none_behind xs e = drop_all (size levels) xs (omega (arith, size_is))

-- numbers that are all 0
pub all_zero : (n : ℕ) (xs : List ℕ) → length xs ≡ n → ((j : ℕ) → j < n → get_or xs j 0 ≡ 0) → xs ≡ replicate n 0
all_zero n xs e z =
    ext_get_or 0 xs (replicate n 0) (e ∙ sym (length-replicate {A = ℕ} n 0)) (λ j l. z j (omega arith) ∙ sym (no_score n j))

-- what the code holds before place i: the bits that are left, the context, how many pairs of level 16 have counters, the counters and the race
pub record Running (b : List ℕ) (i : ℕ) (left : List ℕ) (recent stored : ℕ) (counters : List ℕ) (race : Raced) : Type 0 where
  pub bits : AreBits b
  pub within : i ≤ length b
  pub left_is : left ≡ drop i b
  pub recent_is : recent ≡ context levels b i
  pub stored_is : stored ≡ min (distinct levels b i) cap
  pub counted : counters ≡ span cap 1 levels b i
  pub long : length counters ≡ 262140
  pub raced : Racing levels first_place (guess cap b) (sample b) (i - first_place) race

-- from cleared counters
pub running_starts : {b left counters : List ℕ} {race : Raced} → AreBits b → left ≡ b → counters ≡ replicate (size levels) 0 → race ≡ unraced 16
    → Running b 0 left 0 0 counters race
running_starts {b} {counters = cs} B l e r =
    record {
      bits = B;
      within = omega arith;
      left_is = l;
      recent_is = context_none b;
      stored_is = omega (arith, distinct_early levels b 0 (omega arith));
      counted = e ∙ sym (span_cleared cap levels b);
      long = omega (arith, ap length e, length-replicate {A = ℕ} (size levels) 0, size_is);
      raced = rw r (racing_starts levels first_place (guess cap b) (sample b) (omega arith) (omega arith));
    }

module _ {b : List ℕ} {i : ℕ} {left : List ℕ} {recent stored : ℕ} {counters : List ℕ} {race : Raced} (R : Running b i left recent stored counters race) where
  -- ---- at the end

  at_end : left ≡ [] → i ≡ length b
  at_end e = omega (arith, R.within, length-drop i b, ap length (sym R.left_is ∙ e))

  pub running_ends : left ≡ [] → outcome_in race ≡ outcome_of levels cap b
  running_ends e = racing_outcome b R.raced (omega (arith, at_end e))

  pub running_leaves : left ≡ [] → counters ≡ span cap 1 levels b (length b)
  running_leaves e = rw (at_end e) at R.counted

  pub running_room : Room race
  running_room = racing_room R.raced (omega (arith, R.within, R.bits.short))

  -- ---- at a place: a bit x is left

  module _ {x : ℕ} {rest : List ℕ} (more : left ≡ x ∷ rest) where
    inside : i < length b
    inside = omega (arith, length-drop i b, ap length (sym R.left_is ∙ more))

    ahead : x ∷ rest ≡ get_or b i 0 ∷ drop (suc i) b
    ahead = sym more ∙ R.left_is ∙ drop-cons b i 0 inside

    bit_here : x ≡ get_or b i 0
    bit_here = cc (ahead)

    rest_is : rest ≡ drop (suc i) b
    rest_is = cc (ahead)

    bit_low : x < 2
    bit_low = omega (arith, bit_here, are_bits R.bits i)

    pub place_before : Before b i recent x stored counters
    place_before =
        record {
          stands = record {
            bits = are_bits R.bits;
            inside = inside;
            short = R.bits.short;
            bit_is = bit_here;
            recent_is = R.recent_is;
          };
          counted = rw (none_behind counters R.long) (R.counted ∙ sym (append-nil (span cap 1 levels b i)));
          stored_is = R.stored_is;
        }

    pub recent_fits : recent * 2 + x < 4294967296
    recent_fits = omega (arith, R.recent_is, context_lt levels b i, bit_low)

    -- and the levels have passed it
    module _ {stored' : ℕ} {masks : Masks} {counters' : List ℕ} (A : After b i stored' masks counters counters') where
      pub place_fair : Fair 16 masks
      place_fair = told_fair A.told

      pub place_narrow : masks.rights < 2 ^ 16
      place_narrow = A.told.few

      pub place_spoke : digit masks.rights race.standing.winner ≤ digit masks.speaking race.standing.winner
      place_spoke = racing_spoke R.raced A.told

      pub running_next : {race' : Raced} → length counters' ≡ 262140 → race' ≡ judged 16 race (verdict_in masks)
          → Running b (i + 1) rest ((recent * 2 + x) % 65536) stored' counters' race'
      running_next long r =
          record {
            bits = R.bits;
            within = omega (arith, inside);
            left_is = rw (add-one i) rest_is;
            recent_is = rw (add-one i) (rolled b i recent x R.recent_is bit_here);
            stored_is = rw (add-one i) A.stored_is;
            counted = rw (add-one i) (A.counted ∙ rw (none_behind counters R.long) (append-nil (span cap 1 levels b (suc i))));
            long = long;
            raced = racing_place b R.raced r A.told (λ e j l. guess_late cap b i j (omega arith));
          }
