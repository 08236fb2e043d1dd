-- What the code of the race over verdicts holds, and what its callers see of it. Definitions only.
use Rattle.std.specs.Prelude.{◌≡◌, List, [], ◌∷◌, ◌++◌, ℕ, zero, suc, ◌-◌, ◌<◌, ◌≤◌, length, get_or}
use Rattle.race.specs.Race.{Guess, Standing, standing, events, final_score}
use Rattle.race.specs.Inner.Ends.{tally_of}
use Rattle.race.specs.Inner.Raced.{Raced}
use Rattle.race.specs.declared.Tally.{Tally}
use Rattle.verdicts.specs.Inner.Deficits.{Behind}
use Rattle.verdicts.specs.Inner.Planes.{deficit_at, signs}

-- the scores of the first m sub-predictors: each is behind `top` by its deficit
unfoldable pub scores_of : ℕ → List ℕ → List ℕ → ℕ → List ℕ
scores_of top planes up zero = []
scores_of top planes up (suc m) = scores_of top planes up m ++ ((top - deficit_at planes up m) ∷ [])

-- the fields
pub record Fields : Type 0 where
  pub planes : List ℕ
  pub up : List ℕ
  pub far : ℕ
  pub winner : ℕ
  pub score : ℕ
  pub tally : Tally

-- the race of m sub-predictors that they stand for
abbrev pub raced_in : ℕ → Fields → Raced
raced_in m f =
    record { standing = record { winner = f.winner; scores = scores_of f.score f.planes f.up m }; tally = f.tally }

-- of m sub-predictors: the largest score is the winner's
pub record Leads (m : ℕ) (planes up : List ℕ) (winner score : ℕ) : Type 0 where
  pub within : winner < m
  pub behind : (j : ℕ) → j < m → deficit_at planes up j ≤ score
  pub winner_none : deficit_at planes up winner ≡ 0

-- the same, `up` has m numbers, and `far` is the mask of what is above the planes
pub record Holds (m : ℕ) (planes up : List ℕ) (far winner score : ℕ) : Type 0 where
  pub few : m ≤ 16
  pub many : length up ≡ m
  pub far_is : far ≡ signs up
  pub within : winner < m
  pub behind : (j : ℕ) → j < m → deficit_at planes up j ≤ score
  pub winner_none : deficit_at planes up winner ≡ 0

-- how far each is behind the winner
abbrev pub behind_in : Standing → ℕ → ℕ
behind_in st j = get_or st.scores st.winner 0 - get_or st.scores j 0

-- the race of m sub-predictors after n places from `first` on: the winner, its score and the counts, each one's score, and its deficit to the winner's
pub record Racing (m first : ℕ) (guess : ℕ → ℕ → Guess) (truth : ℕ → ℕ) (n : ℕ) (race : Raced) : Type 0 where
  pub few : m ≤ 16
  pub winner_is : race.standing.winner ≡ (standing m first guess truth n).winner
  pub score_is : get_or race.standing.scores race.standing.winner 0 ≡ final_score m first guess truth n
  pub tally_is : race.tally ≡ tally_of (events m first guess truth n)
  pub scores_are : race.standing.scores ≡ (standing m first guess truth n).scores
  pub behind : Behind m (standing m first guess truth n) (final_score m first guess truth n) (behind_in race.standing)
