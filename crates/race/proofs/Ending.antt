-- How a race ends: after the last place the code holds the outcome that is defined. The winner is one of the m sub-predictors, counted from 1, and
-- its score is at most the number of places. Assumes nothing.
use mathlib.Core.Path.{◌≡◌, ap}
use mathlib.Core.List.{List}
use Prim.Native.Nat.{ℕ, ◌≤◌, ◌<◌}
use native.Mathlib.Omega.{arith}
use lib.ListN.{get_or}
use Rattle.race.specs.Race.{Guess, Standing, sample, predictions, standing, final_score, outcome_over}
use Rattle.race.specs.Inner.Held.{ended}
use Rattle.race.specs.declared.Leader.{Leader}
use Rattle.race.specs.declared.Tally.{Tally}
use Rattle.race.proofs.Standing.{standing_winner, final_score_le}
use Rattle.race.proofs.Step.{Raced}

module _ (m first : ℕ) (guess : ℕ → ℕ → Guess) (s : List ℕ) where
  pub outcome_winner : 0 < m → (1 ≤ (outcome_over m first guess s).winner) × ((outcome_over m first guess s).winner ≤ m)
  outcome_winner p = (omega arith, omega (arith, standing_winner m first guess (sample s) p (predictions first s)))

  pub outcome_score : (outcome_over m first guess s).score ≤ predictions first s
  outcome_score = final_score_le m first guess (sample s) (predictions first s)

  -- what the code holds after n places
  module _ {n : ℕ} {leader : Leader} {scores : List ℕ} {t : Tally} (R : Raced m first guess (sample s) n leader scores t) where
    pub raced_outcome : n ≡ predictions first s → ended t leader scores ≡ outcome_over m first guess s
    raced_outcome e =
        let w : leader.winner ≡ (standing m first guess (sample s) n).winner = ap (λ (st : Standing). st.winner) R.led.stands in
        let p : get_or scores leader.winner 0 ≡ final_score m first guess (sample s) n =
        ap (λ (st : Standing). get_or st.scores st.winner 0) R.led.stands in
        rw (R.hits_are, R.longest_is, p, w, e)
