-- `lanes::part::even` meets its contract. The mask works on each lane apart, and in each it takes the lowest digit away. Assumes nothing.
use Rattle.lanes.proofs.Parting.{even_told}
use Rattle.lanes.proofs.part.even.Goals as goal

pub returns : goal.returns
returns c = even_told c.args.a
