-- `lanes::part::gather` meets its contract. Each of the four shifts brings one mark to its digit below 16 and no other mark below 16, so
-- that they stand beside each other. Assumes nothing.
use native.Mathlib.Omega.{arith}
use Rattle.lanes.proofs.Gathering.{gather_lt, gather_told}
use Rattle.lanes.proofs.part.gather.Goals as goal

pub overflow_cast-result : goal.overflow_cast-result
overflow_cast-result c = omega (arith, gather_lt c.args.marks)

pub returns : goal.returns
returns c = (gather_lt c.args.marks, gather_told c.args.marks (omega arith) c.requires)
