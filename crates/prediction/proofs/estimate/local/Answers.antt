-- `prediction::estimate::local` meets its contract. It is solved only where it can raise the estimate. Assumes nothing.
use mathlib.Core.Path.{ap, sym, ◌∙◌}
use Rattle.answer.specs.declared.Solved.{Solved}
use Rattle.prediction.proofs.Estimating.{solution_is}
use Rattle.prediction.proofs.estimate.local.Goals as goal

pub returns-then-can_raise : goal.returns-then-can_raise
returns-then-can_raise c =
    let s = c.solve.ensures in
    simp (sym c.can_raise.ensures ∙ c.if-can_raise.true) (solution_is (ap (λ (s : Solved). s.rounds) s) (ap (λ (s : Solved). s.value) s))

pub returns-else-can_raise : goal.returns-else-can_raise
returns-else-can_raise c = simp (sym c.can_raise.ensures ∙ c.if-can_raise.false)
