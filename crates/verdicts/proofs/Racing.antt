-- The race over verdicts is the race of `Race`: a step takes what is seen of it after n places to what is seen after one more. Each score is at most
-- the winner's, since a place moves every deficit as `Deficits` says. Assumes nothing.
use mathlib.Core.Path.{◌≡◌, refl, sym, ap, ◌∙◌, subst}
use mathlib.Core.Bool.{Bool, cond}
use mathlib.Core.List.{List}
use Prim.Native.Nat.{ℕ, zero, suc, ◌+◌, ◌-◌, ◌≤◌, ◌<◌}
use native.Mathlib.Omega.{arith}
use lib.Dec.{leb}
use lib.ListN.{length, get_or, length-replicate}
use borrow.Author.Tests.{leb-true, leb-false}
use Rattle.race.specs.Race.{Guess, Verdict, silent, none, judge, sample, predictions, Standing, standing, outcome_over, final_score}
use Rattle.race.specs.Inner.Held.{counter_limit}
use Rattle.race.specs.Inner.Raced.{Raced, Room, unraced, judged, outcome_in, raced_after}
use Rattle.race.specs.declared.Tally.{Tally}
use Rattle.race.proofs.Cases.{tested}
use Rattle.race.proofs.Placing.{raced_none, raced_room, judged_next, judged_idle}
use Rattle.race.proofs.Standing.{no_score}
use Rattle.verdicts.specs.Inner.Told.{digit, Told, verdict_in}
use Rattle.verdicts.specs.Inner.Deficits.{is_right, gain, Behind}
use Rattle.verdicts.specs.Inner.Planes.{deficit_at}
use Rattle.verdicts.specs.Inner.Racing.{Holds, behind_in, Racing}
use Rattle.verdicts.specs.declared.Masks.{Masks}
use Rattle.verdicts.proofs.Deficits.{behind_next, behind_ext, gain_enough}
use Rattle.verdicts.proofs.Stepping.{same_standing, seen, held_behind, held_score}
use Rattle.verdicts.proofs.Tallying.{told_verdict, told_fair}

-- deficits to the largest score are deficits to the winner's
behind_same : {m : ℕ} {st : Standing} {top : ℕ} {d : ℕ → ℕ} → Behind m st top d → (top ≡ get_or st.scores st.winner 0) × Behind m st top (behind_in st)
behind_same {m} {st} {top} {d} B =
    let best : top ≡ get_or st.scores st.winner 0 = omega (arith, B.sums st.winner B.within, B.winner_none) in
    (best, behind_ext B (behind_in st) (λ j l. omega (arith, B.sums j l)))

-- ---- every race of at least one sub-predictor

module _ (m first : ℕ) (guess : ℕ → ℕ → Guess) (truth : ℕ → ℕ) (some : 0 < m) where
  abbrev after : ℕ → Standing
  after n = standing m first guess truth n

  behind_all : (n : ℕ) → Behind m (after n) (final_score m first guess truth n) (behind_in (after n))
  unfolding standing
  behind_all zero =
      record {
        within = some;
        scores_are = length-replicate {A = ℕ} m 0;
        sums = λ j l. omega (arith, no_score m j, no_score m 0);
        winner_none = omega (arith, no_score m 0);
      }
  behind_all (suc n) =
      let g = guess (first + n) in
      let x = truth (first + n) in
      let r : ℕ → Bool = λ j. is_right (judge (g j) x) in
      let d = behind_in (after n) in
      let top = final_score m first guess truth n in
      let e = behind_same (behind_next m g x (after n) top d r (behind_all n) (λ j l. refl) (λ j. d j + gain r d m - cond (r j) 1 0)
      (λ j l. omega (arith, gain_enough r d m j l))) in
      rw e.0 at e.1

  pub racing_after : m ≤ 16 → (n : ℕ) → Racing m first guess truth n (raced_after m first guess truth n)
  racing_after few n =
      record {
        few = few;
        winner_is = refl;
        score_is = refl;
        tally_is = refl;
        scores_are = refl;
        behind = behind_all n;
      }

  pub racing_starts : m ≤ 16 → Racing m first guess truth 0 (unraced m)
  racing_starts few = rw (raced_none m first guess truth) (racing_after few 0)

module _ {m first : ℕ} {guess : ℕ → ℕ → Guess} {truth : ℕ → ℕ} {n : ℕ} {race : Raced} (R : Racing m first guess truth n race) where
  pub racing_winner : race.standing.winner < m
  racing_winner = rw R.winner_is R.behind.within

  pub racing_length : length race.standing.scores ≡ m
  racing_length = ap length R.scores_are ∙ R.behind.scores_are

  some : 0 < m
  some = omega (arith, racing_winner)

  pub racing_is : race ≡ raced_after m first guess truth n
  racing_is = let s : race.standing ≡ standing m first guess truth n = same_standing R.winner_is R.scores_are in rw (← s, ← R.tally_is) refl

  -- ---- what a step needs

  pub racing_room : n < counter_limit → Room race
  racing_room l = rw racing_is (raced_room m first guess truth n l)

  pub racing_spoke : {v : ℕ → Verdict} {masks : Masks} → Told m v masks → digit masks.rights race.standing.winner ≤ digit masks.speaking race.standing.winner
  racing_spoke T = (told_fair T).spoke race.standing.winner racing_winner

  -- ---- one place, with the verdicts v

  module _ {v : ℕ → Verdict} {race' : Raced} (e : race' ≡ judged m race v) where
    -- a place before the first one, at which nobody speaks, changes nothing
    pub racing_quiet : ((j : ℕ) → j < m → v j ≡ none) → Racing m first guess truth n race'
    racing_quiet quiet =
        let q : race' ≡ raced_after m first guess truth n =
        e ∙ ap (λ (r : Raced). judged m r v) racing_is ∙ judged_idle m first guess truth some n v quiet in
        rw q (racing_after m first guess truth some R.few n)

    pub racing_on : ((j : ℕ) → j < m → v j ≡ judge (guess (first + n) j) (truth (first + n))) → Racing m first guess truth (n + 1) race'
    racing_on told =
        let q : race' ≡ raced_after m first guess truth (n + 1) =
        e ∙ ap (λ (r : Raced). judged m r v) racing_is ∙ judged_next m first guess truth some n v told in
        rw q (racing_after m first guess truth some R.few (n + 1))

  -- that masks tell
  module _ {masks : Masks} {race' : Raced} (e : race' ≡ judged m race (verdict_in masks)) where
    pub racing_idle : {v : ℕ → Verdict} → Told m v masks → ((j : ℕ) → j < m → v j ≡ none) → Racing m first guess truth n race'
    racing_idle T quiet = racing_quiet e (λ j l. told_verdict T j l ∙ quiet j l)

    pub racing_next : Told m (λ j. judge (guess (first + n) j) (truth (first + n))) masks → Racing m first guess truth (n + 1) race'
    racing_next T = racing_on e (λ j l. told_verdict T j l)

-- ---- over the samples s, in which every sub-predictor is silent before the place `first`

module _ {m first : ℕ} {guess : ℕ → ℕ → Guess} (s : List ℕ) {n : ℕ} {race : Raced} (R : Racing m first guess (sample s) n race) where
  pub racing_outcome : n ≡ predictions first s → outcome_in race ≡ outcome_over m first guess s
  racing_outcome e = rw (R.tally_is, R.score_is, R.winner_is, e) refl

module _ {m first : ℕ} {guess : ℕ → ℕ → Guess} (s : List ℕ) {i : ℕ} {race race' : Raced} {masks : Masks} (R : Racing m first guess (sample s) (i - first) race)
    (e : race' ≡ judged m race (verdict_in masks)) (T : Told m (λ j. judge (guess i j) (sample s i)) masks) where
  early : i < first → ((j : ℕ) → j < m → guess i j ≡ silent) → Racing m first guess (sample s) (i + 1 - first) race'
  early l quiet =
      let q : i - first ≡ i + 1 - first = omega arith in
      rw q at (racing_idle R e T (λ j k. ap (λ (g : Guess). judge g (sample s i)) (quiet j k)))

  predicted : first ≤ i → Racing m first guess (sample s) (i + 1 - first) race'
  predicted l =
      let q : i - first + 1 ≡ i + 1 - first = omega arith in
      let g : i ≡ first + (i - first) = omega arith in
      let t : Told m (λ j. judge (guess (first + (i - first)) j) (sample s (first + (i - first)))) masks =
      subst (λ (p : ℕ). Told m (λ j. judge (guess p j) (sample s p)) masks) g T in
      rw q at (racing_next R e t)

  -- place i
  pub racing_place : (i < first → (j : ℕ) → j < m → guess i j ≡ silent) → Racing m first guess (sample s) (i + 1 - first) race'
  racing_place quiet =
      tested (leb first i) (λ q. predicted (leb-true _ _ q)) (λ q. let l : i < first = leb-false _ _ q in early l (quiet l))

-- ---- what the code holds

module _ {m first : ℕ} {guess : ℕ → ℕ → Guess} {truth : ℕ → ℕ} {n : ℕ} {planes up : List ℕ} {far winner score : ℕ} {t : Tally}
    (H : Holds m planes up far winner score) (R : Racing m first guess truth n (record { standing = seen m planes up winner score; tally = t })) where
  -- its score is the winner's, and the deficits in its planes are the race's
  pub racing_score : score ≡ final_score m first guess truth n
  racing_score = sym (held_score H) ∙ R.score_is

  pub racing_behind : Behind m (standing m first guess truth n) (final_score m first guess truth n) (deficit_at planes up)
  racing_behind = rw (← racing_score, ← same_standing R.winner_is R.scores_are) (held_behind H)
