-- What a rating takes from the estimate and what from the race: all but the winner and the score is the estimate's. Those two are the race's where the
-- number is 0, and 0 where it is not. Assumes nothing.
use mathlib.Core.Path.{◌≡◌, refl, sym, ◌∙◌}
use mathlib.Core.Bool.{Bool, true, false, cond}
use Prim.Native.Nat.{ℕ}
use native.Mathlib.Omega.{arith}
use lib.Dec.{eqb}
use borrow.Author.Tests.{eq-eqb, eqb-true, ne_eqb}
use Rattle.answer.specs.Numbers.{done, impossible}
use Rattle.answer.specs.Predicted.{predicted_by}
use Rattle.answer.specs.Refused.{refused}
use Rattle.answer.specs.declared.Answer.{Answer}
use Rattle.counts.specs.Counts.{impossible_counts}
use Rattle.prediction.specs.Estimate.{estimate, estimated_of, estimate_of}
use Rattle.race.proofs.Cases.{tested}
use Rattle.race.specs.declared.Outcome.{Outcome}
use Rattle.rating.specs.Rating.{rating_of}
use Rattle.rating.specs.Who.{Nobody}

-- the same answer but for who predicted
pub record Alike (r a : Answer) : Type 0 where
  pub number_is : r.number ≡ a.number
  pub place_is : r.place ≡ a.place
  pub k_is : r.k ≡ a.k
  pub rounds_is : r.rounds ≡ a.rounds
  pub estimate_is : r.estimate ≡ a.estimate

-- the outcome o of a race of n predictions
pub record Rated (o : Outcome) (n : ℕ) (a : Answer) : Type 0 where
  pub winner_is : a.winner ≡ o.winner
  pub score_is : a.score ≡ o.score
  pub n_is : a.estimate.n ≡ n

laid : (winner score : ℕ) (a : Answer) → Alike (predicted_by winner score a) a
laid winner score a =
    tested (eqb a.number done)
    (λ t. rw t (record { number_is = sym (eqb-true a.number done t); place_is = refl; k_is = refl; rounds_is = refl; estimate_is = refl }))
    (λ t. rw t (record { number_is = refl; place_is = refl; k_is = refl; rounds_is = refl; estimate_is = refl }))

-- the estimate of bare counts, by whether they are impossible
module _ (c n run k : ℕ) where
  abbrev bare : Bool → Answer
  bare b = cond b (refused impossible) (estimated_of c n run k)

  bare_nobody : (b : Bool) → Nobody (bare b)
  unfolding estimated_of
  bare_nobody true = record { no_winner = refl; no_score = refl }
  bare_nobody false = record { no_winner = refl; no_score = refl }

  bare_n : (b : Bool) → (bare b).number ≡ done → (bare b).estimate.n ≡ n
  unfolding estimated_of estimate
  bare_n true e = absurd (omega (arith, e))
  bare_n false e = refl

module _ (o : Outcome) (n k : ℕ) where
  abbrev counted : Answer
  counted = estimate_of o.hits n o.longest k

  pub rated_alike : Alike (rating_of o n k) (estimate_of o.hits n o.longest k)
  unfolding rating_of
  rated_alike = laid o.winner o.score counted

  pub rated_number : (rating_of o n k).number ≡ (estimate_of o.hits n o.longest k).number
  rated_number = rated_alike.number_is

  counted_n : counted.number ≡ done → counted.estimate.n ≡ n
  unfolding estimate_of
  counted_n = bare_n o.hits n o.longest k (impossible_counts o.hits n o.longest k)

  counted_nobody : Nobody counted
  unfolding estimate_of
  counted_nobody = bare_nobody o.hits n o.longest k (impossible_counts o.hits n o.longest k)

  pub rated : (rating_of o n k).number ≡ done → Rated o n (rating_of o n k)
  unfolding rating_of
  rated e =
      let d : counted.number ≡ done = sym rated_number ∙ e in
      let n_is : counted.estimate.n ≡ n = counted_n d in
      rw (eq-eqb counted.number done d) (record { winner_is = refl; score_is = refl; n_is = n_is })

  pub unrated : ((rating_of o n k).number ≡ done → ⊥) → Nobody (rating_of o n k)
  unfolding rating_of
  unrated d = rw (ne_eqb counted.number done (λ q. d (rated_number ∙ q))) counted_nobody
