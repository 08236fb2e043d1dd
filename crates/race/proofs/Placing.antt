-- The race from place to place: what `Race::step` ensures takes the standing and the counts after n places to those after n + 1, and a place at which
-- every sub-predictor is silent changes nothing. Assumes nothing.
use mathlib.Core.Path.{◌≡◌, refl, sym, ap, ◌∙◌}
use mathlib.Core.List.{List}
use Prim.Native.Nat.{ℕ, suc, ◌+◌, ◌-◌, ◌≤◌, ◌<◌, max}
use native.Mathlib.Omega.{arith}
use native.Mathlib.Numerals.{add-one}
use lib.Dec.{leb}
use lib.ListN.{length}
use borrow.Author.Tests.{leb-true, leb-false}
use Rattle.std.specs.Prelude.{Option}
use Rattle.race.specs.Race.{Guess, silent, none, judge, sample, Standing, Verdict, verdict_of, hit_of, hits, longest, standing, event, events, outcome_over}
use Rattle.race.specs.Inner.Ends.{run_after, tally_of}
use Rattle.race.specs.Inner.Held.{settled, tallied, counter_limit}
use Rattle.race.specs.Inner.Raced.{Raced, Room, heard_from, verdicts_on, unraced, judged, raced_on, outcome_in, raced_after, raced_at}
use Rattle.race.specs.declared.Tally.{Tally}
use Rattle.race.proofs.Cases.{tested}
use Rattle.race.proofs.Trace.{hits_append, hits_le, run_after_snoc, run_after_le, run_after_le_longest, longest_snoc}
use Rattle.race.proofs.Standing.{scored_settled, settled_alike, settled_silent, standing_winner, standing_le, events_length}

-- what makes up a race
same_race : {s s' : Standing} {t t' : Tally} → s ≡ s' → t ≡ t' →
    (let a : Raced = record { standing = s; tally = t } in a) ≡ record { standing = s'; tally = t' }
same_race p q = rw (p, q) refl

module _ (m first : ℕ) (guess : ℕ → ℕ → Guess) (truth : ℕ → ℕ) where
  -- before the first place
  pub raced_none : unraced m ≡ raced_after m first guess truth 0
  unfolding standing events hits run_after longest
  raced_none = refl

  -- scores and counts fit
  pub raced_room : (n : ℕ) → n < counter_limit → Room (raced_after m first guess truth n)
  raced_room n l =
      let es = events m first guess truth n in
      let many : length es ≡ n = events_length m first guess truth n in
      record {
        scores = record { scores_fit = λ j. omega (arith, standing_le m first guess truth n j) };
        hits_fit = omega (arith, hits_le es);
        run_fits = omega (arith, run_after_le 0 es);
      }

  pub raced_winner : 0 < m → (n : ℕ) → (raced_after m first guess truth n).standing.winner < m
  raced_winner some n = standing_winner m first guess truth some n

  module _ (some : 0 < m) (n : ℕ) (v : ℕ → Verdict) where
    -- all are silent
    pub judged_idle : ((j : ℕ) → j < m → v j ≡ none) → judged m (raced_after m first guess truth n) v ≡ raced_after m first guess truth n
    judged_idle quiet =
        let es = events m first guess truth n in
        let st = standing m first guess truth n in
        let h : hits es + 0 ≡ hits es = omega arith in
        let l : max (longest es) (run_after 0 es) ≡ longest es = omega (arith, run_after_le_longest es) in
        let kept : tallied (v st.winner) (tally_of es) ≡ tally_of es = rw (quiet st.winner (raced_winner some n), h, l) refl in
        same_race (settled_silent v st m quiet) kept

    -- they have the verdicts of the n-th place
    module _ (told : (j : ℕ) → j < m → v j ≡ judge (guess (first + n) j) (truth (first + n))) where
      stands_next : settled v (standing m first guess truth n) m ≡ standing m first guess truth (suc n)
      unfolding standing
      stands_next =
          settled_alike v (λ j. judge (guess (first + n) j) (truth (first + n))) (standing m first guess truth n) m told
          ∙ sym (scored_settled (guess (first + n)) (truth (first + n)) (standing m first guess truth n) m)

      verdict_is : v (standing m first guess truth n).winner ≡ verdict_of (event m first guess truth n)
      unfolding event
      verdict_is = told (standing m first guess truth n).winner (raced_winner some n)

      tally_next : tallied (verdict_of (event m first guess truth n)) (tally_of (events m first guess truth n)) ≡ tally_of (events m first guess truth (suc n))
      unfolding events hits
      tally_next =
          let e = verdict_of (event m first guess truth n) in
          let one : hit_of e + 0 ≡ hit_of e = omega arith in
          rw (hits_append, run_after_snoc, longest_snoc, one) refl

      pub judged_next : judged m (raced_after m first guess truth n) v ≡ raced_after m first guess truth (n + 1)
      judged_next =
          rw (add-one n)
          (same_race stands_next
          (ap (λ (e : Verdict). tallied e (tally_of (events m first guess truth n))) verdict_is ∙ tally_next))

-- the race over the samples s, in which every sub-predictor is silent before the place `first`
module _ (m first : ℕ) (guess : ℕ → ℕ → Guess) (s : List ℕ) where
  -- place i, where v are the verdicts
  pub judged_place : 0 < m → (i : ℕ) (v : ℕ → Verdict) → ((j : ℕ) → j < m → v j ≡ judge (guess i j) (sample s i))
      → (i < first → (j : ℕ) → j < m → guess i j ≡ silent) → judged m (raced_at m first guess s i) v ≡ raced_at m first guess s (i + 1)
  judged_place some i v told quiet =
      tested (leb first i)
      (λ q.
      let late : first ≤ i = leb-true _ _ q in
      let e : i + 1 - first ≡ i - first + 1 = omega arith in
      let p : first + (i - first) ≡ i = omega arith in
      rw e (judged_next m first guess (sample s) some (i - first) v (λ j l. rw p (told j l))))
      (λ q.
      let early : i < first = leb-false _ _ q in
      let e : i + 1 - first ≡ i - first = omega arith in
      let hush : (j : ℕ) → j < m → v j ≡ none = λ j l. told j l ∙ ap (λ (g : Guess). judge g (sample s i)) (quiet early j l) in
      rw e (judged_idle m first guess (sample s) some (i - first) v hush))

  -- where gs, held against x, have them
  pub raced_place : 0 < m → (i x : ℕ) (gs : List (Option ℕ)) → length gs ≡ m →
      ((j : ℕ) → j < m → judge (heard_from gs j) x ≡ judge (guess i j) (sample s i)) → (i < first → (j : ℕ) → j < m → guess i j ≡ silent)
      → raced_on (raced_at m first guess s i) gs x ≡ raced_at m first guess s (i + 1)
  raced_place some i x gs many told quiet =
      ap (λ n. judged n (raced_at m first guess s i) (verdicts_on gs x)) many ∙ judged_place some i (verdicts_on gs x) told quiet

  -- after the last place
  pub raced_ends : (i : ℕ) → i ≡ length s → outcome_in (raced_at m first guess s i) ≡ outcome_over m first guess s
  raced_ends i e = rw e refl
