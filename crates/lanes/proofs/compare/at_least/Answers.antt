-- `lanes::compare::at_least` meets its contract. A lane with the mark on it holds more than any lane without, so none borrows from the
-- next, and its mark is left where b is not larger. Assumes nothing.
use native.Mathlib.Omega.{arith}
use Rattle.lanes.proofs.Comparing.{at_least_fits, at_least_told}
use Rattle.lanes.proofs.compare.at_least.Goals as goal

pub overflow_sub-result : goal.overflow_sub-result
overflow_sub-result c = at_least_fits c.args.a c.args.b c.requires.0 c.requires.1 (omega arith)

pub returns : goal.returns
returns c = at_least_told c.args.a c.args.b c.requires.0 c.requires.1 (omega arith)
