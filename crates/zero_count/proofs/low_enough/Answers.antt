-- `zero_count::low_enough` meets its contract: it is the definition's comparison. Assumes nothing.
use lib.Ieee.{of_bits}
use Rattle.zero_count.proofs.low_enough.Goals as goal

pub returns : goal.returns
unfolding of_bits
returns c = rw (c.power.ensures, c.part.ensures)
