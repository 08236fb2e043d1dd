-- What a race comes to: the estimate from its counts, and on top of it who predicted. Definitions only.
use Rattle.std.specs.Prelude.{ℕ}
use Rattle.answer.specs.Predicted.{predicted_by}
use Rattle.answer.specs.declared.Answer.{Answer}
use Rattle.prediction.specs.Estimate.{estimate_of}
use Rattle.race.specs.declared.Outcome.{Outcome}

-- a race of n predictions over an alphabet of k symbols
unfoldable pub rating_of : Outcome → ℕ → ℕ → Answer
rating_of o n k = predicted_by o.winner o.score (estimate_of o.hits n o.longest k)
