-- `bisect::calc_p_local` meets its contract. Number 4 comes before 5. Assumes nothing.
use mathlib.Core.Path.{sym, ◌∙◌}
use Rattle.std.proofs.lemmas.Result.{err_from_is_err_and}
use Rattle.bisect.specs.Bisection.{local_of}
use Rattle.bisect.proofs.calc_p_local.Goals as goal

pub returns-in_err-runs : goal.returns-in_err-runs
unfolding local_of
returns-in_err-runs c =
    let said = c.in_err-runs.ensures.refused in
    let p = err_from_is_err_and c.from_residual.result c.from_residual.ensures.1 in
    rw (p.1, p.2, said.1, said.0)

pub returns-then-is_outside : goal.returns-then-is_outside
unfolding local_of
returns-then-is_outside c = simp (c.in_ok-runs.ensures.ok.0, sym c.is_outside.ensures ∙ c.if-is_outside.true)

pub returns : goal.returns
unfolding local_of
returns c =
    let run = c.in_ok-runs.ensures.ok in
    simp (run.0, sym c.is_outside.ensures ∙ c.if-is_outside.false) (rw (c.solve.ensures, run.1, run.2))
