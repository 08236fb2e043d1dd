-- `function::update` meets its contract. It is the definition's operations. Assumes nothing.
use lib.Ieee.{of_bits}
use Rattle.function.specs.Function.{updated}
use Rattle.function.proofs.update.Goals as goal

pub returns : goal.returns
unfolding updated of_bits
returns c = rw (c.power.ensures, c.from.ensures)
