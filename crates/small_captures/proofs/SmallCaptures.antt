-- The first nine rows of "Small captures to check by hand" hold, as one statement over their list: the prover computes each race from its definition.
-- Assumes nothing.
use mathlib.Core.Path.{◌≡◌, refl, ap, ◌∙◌}
use mathlib.Core.Bool.{false, true}
use mathlib.Core.List.{List, [], ◌∷◌}
use Prim.Native.Nat.{ℕ, ◌≤◌}
use native.Mathlib.Omega.{arith}
use borrow.Author.Tests.{le-ltb}
use lib.Dec.{leb, ltb}
use lib.ListN.{length}
use Rattle.answer.specs.declared.Answer.{Answer}
use Rattle.alphabet.specs.Alphabet.{distinct, distinct_below, has, rising, sorted}
use Rattle.capture.specs.Bits.{bit_at, bits_of, first_wide, table}
use Rattle.capture.specs.Limit.{no_width, symbol_limit}
use Rattle.mmc_bits.specs.Counters as C
use Rattle.mmc_bits.specs.Guesses as G
use Rattle.mmc_bits.specs.Levels.{levels, cap, first_place}
use Rattle.mmc_bits.specs.Mmc as Bits
use Rattle.mmc_bits.specs.Space.{size}
use Rattle.mmc_store.specs.Counts as SC
use Rattle.mmc_store.specs.Levels as SL
use Rattle.mmc_store.specs.Mmc as Store
use Rattle.mmc_store.specs.Space.{size as storeSize}
use Rattle.multi_mcw.specs.Tracks.{mcw_bits}
use Rattle.multi_mmc.specs.Tracks.{bits_estimate, bits_number, bits_of_capture, literal_estimate, literal_number, mmc_bits, mmc_literal, needed}
use Rattle.multi_mmc.specs.Tracks.{store_estimate}
use Rattle.counts.specs.Counts.{count_limit, impossible_counts}
use Rattle.prediction.specs.Estimate.{estimate, estimated_of, estimate_of}
use Rattle.race.specs.declared.Outcome.{Outcome}
use Rattle.race.specs.Race.{event, events, hits, longest, predictions, scored, standing, stretch}
use Rattle.rating.specs.Rating.{rating_of}
use Rattle.small_captures.specs.SmallCaptures.{All, Right, Track, answer_of, mmc_on_bits, mmc_on_literals, more, none, rows}

-- what the answer of a race holds, where its counts can be
pub record Holds (a : Answer) (c n run : ℕ) : Type 0 where
  pub number : a.number ≡ 0
  pub hits_are : a.estimate.c ≡ c
  pub places_are : a.estimate.n ≡ n
  pub run_is : a.estimate.max_run_len ≡ run

holds : (o : Outcome) (n k : ℕ) → impossible_counts o.hits n o.longest k ≡ false → Holds (rating_of o n k) o.hits n o.longest
unfolding rating_of estimate_of estimated_of estimate
holds o n k e = record { number = rw e; hits_are = rw e; places_are = rw e; run_is = rw e }

module _ (out space : List ℕ) (out-room : 6 ≤ length out) (room : storeSize levels ≤ length space) where
  bits_room : size levels ≤ length space
  unfolding size storeSize
  bits_room = omega arith

  -- an answer that is that of a race whose counts can be
  runs : (t : Track) (s : List ℕ) (o : Outcome) (m k : ℕ) {c n run : ℕ} → answer_of t s out space ≡ rating_of o m k → o.hits ≡ c → m ≡ n → o.longest ≡ run
      → impossible_counts c n run k ≡ false → Right out space (record { track = t; samples = s; number = 0; c = c; n = n; run = run })
  runs t s o m k e p q l h =
      let r = holds o m k (rw (p, q, l) h) in
      record {
        number_is = ap (λ (a : Answer). a.number) e ∙ r.number;
        c_is = ap (λ (a : Answer). a.estimate.c) e ∙ r.hits_are ∙ p;
        n_is = ap (λ (a : Answer). a.estimate.n) e ∙ r.places_are ∙ q;
        run_is = ap (λ (a : Answer). a.estimate.max_run_len) e ∙ r.run_is ∙ l;
      }

  -- bits that are not refused
  bits_row : (b : List ℕ) (c n run : ℕ) → bits_number b 1 space ≡ 0 → (Bits.outcome_of levels cap (bits_of_capture b 1)).hits ≡ c
      → predictions first_place (bits_of_capture b 1) ≡ n → (Bits.outcome_of levels cap (bits_of_capture b 1)).longest ≡ run → impossible_counts c n run 2 ≡ false
      → Right out space (record { track = mmc_on_bits; samples = b; number = 0; c = c; n = n; run = run })
  unfolding mmc_bits bits_estimate
  bits_row b c n run e p q l h = runs mmc_on_bits b (Bits.outcome_of levels cap (bits_of_capture b 1)) (predictions first_place (bits_of_capture b 1)) 2 (rw e) p q l h

  -- literals of at most two values, and of more
  two_row : (s : List ℕ) (c n run : ℕ) → literal_number s out space ≡ 0 → leb (distinct s) 2 ≡ true → (Bits.outcome_of levels cap (sorted s)).hits ≡ c
      → predictions first_place (sorted s) ≡ n → (Bits.outcome_of levels cap (sorted s)).longest ≡ run → impossible_counts c n run 2 ≡ false
      → Right out space (record { track = mmc_on_literals; samples = s; number = 0; c = c; n = n; run = run })
  unfolding mmc_literal literal_estimate bits_estimate
  two_row s c n run e d p q l h = runs mmc_on_literals s (Bits.outcome_of levels cap (sorted s)) (predictions first_place (sorted s)) 2 (rw (e, d)) p q l h

  many_row : (s : List ℕ) (c n run : ℕ) → literal_number s out space ≡ 0 → leb (distinct s) 2 ≡ false → (Store.outcome_of levels cap (sorted s)).hits ≡ c
      → predictions first_place (sorted s) ≡ n → (Store.outcome_of levels cap (sorted s)).longest ≡ run → impossible_counts c n run (distinct s) ≡ false
      → Right out space (record { track = mmc_on_literals; samples = s; number = 0; c = c; n = n; run = run })
  unfolding mmc_literal literal_estimate store_estimate
  many_row s c n run e d p q l h =
      runs mmc_on_literals s (Store.outcome_of levels cap (sorted s)) (predictions first_place (sorted s)) (distinct s) (rw (e, d)) p q l h

  -- work space is long enough
  bits_short : ltb (length space) (size levels) ≡ false
  bits_short = le-ltb (length space) (size levels) bits_room

  pub nine_rows : All (Right out space) rows
  unfolding
      bits_number literal_number needed symbol_limit no_width first_wide count_limit impossible_counts mmc_bits mcw_bits
      bit_at bits_of table distinct distinct_below has rising
      C.before C.context C.pair C.places C.occurs C.fresh C.ahead C.counter G.verdict G.own G.guess
      SC.same SC.present SC.count SC.largest SC.predicted SL.when_found SL.when_absent SL.found SL.level SL.guess
      scored standing event events hits stretch longest
  nine_rows =
      more (bits_row (0 ∷ 0 ∷ 0 ∷ 0 ∷ []) 2 2 2 (rw bits_short) refl refl refl refl)
      (more (bits_row (0 ∷ 1 ∷ 0 ∷ 1 ∷ []) 1 2 1 (rw bits_short) refl refl refl refl)
      (more (bits_row (0 ∷ 0 ∷ 1 ∷ 1 ∷ []) 0 2 0 (rw bits_short) refl refl refl refl)
      (more (bits_row (0 ∷ 0 ∷ 1 ∷ 0 ∷ 1 ∷ []) 1 3 1 (rw bits_short) refl refl refl refl)
      (more (bits_row (0 ∷ 0 ∷ 0 ∷ 1 ∷ []) 1 2 1 (rw bits_short) refl refl refl refl)
      (more (bits_row (0 ∷ 1 ∷ 1 ∷ 0 ∷ []) 0 2 0 (rw bits_short) refl refl refl refl)
      (more (two_row (5 ∷ 5 ∷ 5 ∷ 5 ∷ []) 2 2 2 (rw (le-ltb (length out) 4 (omega arith), bits_short)) refl refl refl refl refl)
      (more
      (many_row (10 ∷ 30 ∷ 10 ∷ 20 ∷ 10 ∷ 30 ∷ []) 1 4 1
      (rw (le-ltb (length out) 6 out-room, le-ltb (length space) (storeSize levels) room)) refl refl refl refl refl)
      (more (record { number_is = refl; c_is = refl; n_is = refl; run_is = refl })
      (more (record { number_is = refl; c_is = refl; n_is = refl; run_is = refl }) none)))))))))
