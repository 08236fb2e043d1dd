-- `function::at_fixed_point` meets its contract. It is the definition's operations. Assumes nothing.
use lib.Ieee.{of_bits}
use Rattle.function.specs.Function.{at_fixed_point}
use Rattle.function.proofs.at_fixed_point.Goals as goal

pub returns : goal.returns
unfolding at_fixed_point of_bits
returns c = rw (c.ln.ensures, c.ln-2.ensures, c.ln-3.ensures, c.from-rf.ensures, c.from-nf.ensures)
