-- `rate` meets its contract. The estimate is that of the outcome's counts, and who predicted is laid on it as it is; a refusal stays. Assumes nothing.
use mathlib.Core.Path.{ap, ◌∙◌}
use Rattle.std.proofs.lemmas.Result.{err_from_is_err_and}
use Rattle.answer.specs.Predicted.{predicted_by}
use Rattle.rating.specs.Rating.{rating_of}
use Rattle.rating.proofs.Refused.{refusal_stays}
use Rattle.rating.proofs.rate.Goals as goal

pub returns-in_err-estimated : goal.returns-in_err-estimated
unfolding rating_of
returns-in_err-estimated c =
    let p = err_from_is_err_and c.from_residual.result c.from_residual.ensures.1 in
    rw (p.1, p.2) (refusal_stays _ _ c.in_err-estimated.field-0.0 ∙ ap (predicted_by _ _) c.in_err-estimated.ensures)

pub returns : goal.returns
unfolding rating_of
returns c = ap (predicted_by c.args.outcome.winner c.args.outcome.score) c.in_ok-estimated.ensures
