-- Who predicted, in an answer of number 0 and in any other. Definitions only.
use Rattle.std.specs.Prelude.{◌≡◌, ℕ, ◌≤◌}
use Rattle.answer.specs.Numbers.{done}
use Rattle.answer.specs.declared.Answer.{Answer}

-- one of m sub-predictors won, "from 1", with no more right predictions than there were
pub record Somebody (m : ℕ) (a : Answer) : Type 0 where
  pub winner_least : 1 ≤ a.winner
  pub winner_most : a.winner ≤ m
  pub score_most : a.score ≤ a.estimate.n

-- "0 in both"
pub record Nobody (a : Answer) : Type 0 where
  pub no_winner : a.winner ≡ 0
  pub no_score : a.score ≡ 0

pub record Who (m : ℕ) (a : Answer) : Type 0 where
  pub where_done : a.number ≡ done → Somebody m a
  pub where_not : (a.number ≡ done → ⊥) → Nobody a
