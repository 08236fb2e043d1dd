-- `power::power` meets its contract: it is the definition's product with 1. Assumes nothing.
use lib.Ieee.{of_bits}
use Rattle.power.specs.Power.{power_of}
use Rattle.power.proofs.power.Goals as goal

pub returns : goal.returns
unfolding power_of of_bits
returns c = c.times_power.ensures
