-- `prediction::estimate::hit_rate` meets its contract. It is the definition's quotient. Assumes nothing.
use Rattle.prediction.specs.Estimate.{p_global}
use Rattle.rounding.proofs.Exact.{whole_fits}
use Rattle.counts.proofs.Whole.{limit_small}
use native.Mathlib.Omega.{arith}
use lib.Ieee.{of_bits}
use borrow.Author.Tests.{eq-eqb, ne_eqb}
use Rattle.prediction.proofs.estimate.hit_rate.Goals as goal

pub returns-then-counted-eq0 : goal.returns-then-counted-eq0
unfolding p_global of_bits
returns-then-counted-eq0 c = simp (eq-eqb _ _ c.if-counted-eq0.true)

pub int_to_float-result : goal.int_to_float-result
int_to_float-result c = whole_fits _ (omega (arith, limit_small))

pub int_to_float-result-2 : goal.int_to_float-result-2
int_to_float-result-2 c = whole_fits _ (omega (arith, limit_small))

pub returns : goal.returns
unfolding p_global of_bits
returns c = simp (ne_eqb _ _ c.if-counted-eq0.false)
