-- `prediction::estimate::floor_of` meets its contract. It is the definition's steps. Assumes nothing.
use native.Mathlib.Omega.{arith}
use lib.Ieee.{of_bits}
use Rattle.prediction.specs.Estimate.{floor_from}
use Rattle.rounding.proofs.Exact.{whole_fits}
use Rattle.prediction.proofs.estimate.floor_of.Goals as goal

pub int_to_float-counted : goal.int_to_float-counted
int_to_float-counted c = whole_fits _ (omega arith)

pub returns : goal.returns
unfolding floor_from of_bits
returns c = c.larger_of.ensures
