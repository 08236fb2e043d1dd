-- `function::value_at` meets its contract. It is the definition's steps, and the counts are small. Assumes nothing.
use mathlib.Core.Path.{◌∙◌}
use native.Mathlib.Omega.{arith}
use Rattle.function.specs.Function.{value_at}
use Rattle.counts.proofs.Whole.{limit_small}
use Rattle.function.proofs.value_at.Goals as goal

pub overflow_cast-r : goal.overflow_cast-r
overflow_cast-r c = record { fits = omega (arith, limit_small) }

pub overflow_add-r : goal.overflow_add-r
overflow_add-r c = omega (arith, limit_small)

pub overflow_cast-runs : goal.overflow_cast-runs
overflow_cast-runs c = record { fits = omega (arith, limit_small) }

pub returns : goal.returns
unfolding value_at
returns c = c.at_fixed_point.ensures ∙ rw c.fixed_point-x.ensures
