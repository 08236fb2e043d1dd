-- `lanes::choose::lose` meets its contract. A marked lane with its lowest bit set is odd and 3 or more, so that it can lose 3 and borrows
-- nothing; the others lose nothing. Assumes nothing.
use native.Mathlib.Omega.{arith}
use Rattle.lanes.proofs.Choosing.{lose_fits, lost}
use Rattle.lanes.proofs.choose.lose.Goals as goal

pub overflow_sub-result : goal.overflow_sub-result
overflow_sub-result c = lose_fits c.args.marks c.args.m (omega arith) c.requires

pub returns : goal.returns
returns c = lost c.args.marks c.args.m (omega arith) c.requires
