-- `prediction::estimate::upper_bound` meets its contract. It is the definition's steps, with z the double nearest to
-- 2.575829303548901, and 1 where they surely come to it. Assumes nothing.
use mathlib.Core.Path.{sym, ◌∙◌}
use native.Mathlib.Omega.{arith}
use lib.Ieee.{of_bits, round}
use Rattle.counts.specs.Doubles.{z995}
use Rattle.prediction.specs.Estimate.{upper_bound}
use Rattle.rounding.proofs.Exact.{whole_fits}
use Rattle.counts.proofs.Whole.{limit_small}
use Rattle.prediction.proofs.estimate.upper_bound.Goals as goal

pub int_to_float-variance : goal.int_to_float-variance
int_to_float-variance c = whole_fits _ (omega (arith, limit_small))

pub returns-then-reaches_one : goal.returns-then-reaches_one
unfolding upper_bound of_bits
returns-then-reaches_one c = sym (c.reaches_one.ensures c.if-reaches_one.true)

pub returns : goal.returns
unfolding upper_bound z995 of_bits round
returns c = c.at_most_one.ensures ∙ rw c.sqrt.ensures
