-- `prediction::estimate::reaches_one` meets its contract. What passes both tests is `bound_is_one`, with the code's number for
-- the part of 1 - p. Assumes nothing.
use mathlib.Core.Path.{sym, ◌∙◌, subst}
use mathlib.Core.Bool.{false≢true}
use lib.Dec.{T}
use lib.Ieee.{of_bits, round, le}
use Rattle.counts.specs.Doubles.{z995}
use Rattle.prediction.proofs.Reaching.{bound_is_one}
use Rattle.prediction.proofs.estimate.reaches_one.Goals as goal

pub returns-then-w-v : goal.returns-then-w-v
unfolding z995 of_bits round le
returns-then-w-v c k = bound_is_one _ _ _ c.requires.0 c.requires.1 tt tt (subst T (sym c.well_formed.1.0.1) tt) c.if-w-v.true k

pub returns-else-w-v : goal.returns-else-w-v
returns-else-w-v c k = absurd (false≢true (sym c.if-w-v.false ∙ k))
