-- Who predicted, in an answer of number 0 and in any other. A race of m sub-predictors has one of them for its winner, with no more right predictions
-- than there are places; a refusal has nobody. Assumes nothing.
use mathlib.Core.Path.{refl}
use mathlib.Core.Bool.{cond}
use mathlib.Core.List.{List}
use Prim.Native.Nat.{ℕ, ◌<◌}
use native.Mathlib.Omega.{arith}
use lib.Dec.{eqb}
use borrow.Author.Tests.{eqb-false}
use Rattle.answer.specs.Numbers.{done}
use Rattle.answer.specs.Refused.{refused_at}
use Rattle.answer.specs.declared.Answer.{Answer}
use Rattle.race.proofs.Cases.{tested}
use Rattle.race.proofs.Ending.{outcome_winner, outcome_score}
use Rattle.race.specs.Race.{Guess, predictions, outcome_over}
use Rattle.rating.specs.Rating.{rating_of}
use Rattle.rating.specs.Who.{Who}
use Rattle.rating.proofs.Rated.{rated, unrated}

pub race_who : (m first : ℕ) (guess : ℕ → ℕ → Guess) (s : List ℕ) (k : ℕ) → 0 < m
    → Who m (rating_of (outcome_over m first guess s) (predictions first s) k)
race_who m first guess s k p =
    let o = outcome_over m first guess s in
    let w = outcome_winner m first guess s p in
    record {
      where_done = λ e.
          let r = rated o (predictions first s) k e in
          record {
            winner_least = omega (arith, r.winner_is, w.0);
            winner_most = omega (arith, r.winner_is, w.1);
            score_most = omega (arith, r.score_is, r.n_is, outcome_score m first guess s);
          };
      where_not = unrated o (predictions first s) k;
    }

-- an answer a that is given only where the number n is 0
pub else_refused : {m : ℕ} {a : Answer} → Who m a → (n place : ℕ) → Who m (cond (eqb n done) a (refused_at n place))
else_refused W n place =
    tested (eqb n done) (λ t. rw t W)
    (λ t. rw t (record { where_done = λ e. absurd (eqb-false n done t e); where_not = λ d. record { no_winner = refl; no_score = refl } }))
