-- `lanes::compare::same` meets its contract. The mark less what differs in a lane leaves the mark where nothing does, and no lane borrows
-- from the next, as what differs is below the mark. Assumes nothing.
use native.Mathlib.Omega.{arith}
use Rattle.lanes.proofs.Comparing.{same_fits, same_told}
use Rattle.lanes.proofs.compare.same.Goals as goal

pub overflow_sub-result : goal.overflow_sub-result
overflow_sub-result c = same_fits c.args.a c.args.b c.requires.0 c.requires.1 (omega arith) (omega arith)

pub returns : goal.returns
returns c = same_told c.args.a c.args.b c.requires.0 c.requires.1 (omega arith) (omega arith)
