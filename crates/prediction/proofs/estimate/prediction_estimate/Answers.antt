-- `prediction::estimate::prediction_estimate` meets its contract. Only impossible counts are refused. Assumes nothing.
use mathlib.Core.Path.{◌∙◌}
use Rattle.std.proofs.lemmas.Result.{err_from_is_err_and}
use Rattle.prediction.specs.Estimate.{estimate_of}
use Rattle.prediction.proofs.estimate.prediction_estimate.Goals as goal

pub returns-in_err-new : goal.returns-in_err-new
unfolding estimate_of
returns-in_err-new c =
    let said = c.in_err-new.ensures.refused in
    let p = err_from_is_err_and c.from_residual.result c.from_residual.ensures.1 in
    rw (p.1, p.2, said.1, said.0)

pub returns : goal.returns
unfolding estimate_of
returns c =
    let x = c.in_ok-new.ensures.ok in
    simp x.0 (c.estimated.ensures ∙ rw (x.1, x.2, x.3, x.4))
