-- `lanes::part::spread` meets its contract. The constant has a 1 in each lane, and x times it has x in each, as x fits a lane.
-- Assumes nothing.
use Rattle.lanes.proofs.Parting.{spread_told}
use Rattle.lanes.proofs.part.spread.Goals as goal

pub returns : goal.returns
returns c = spread_told c.args.x c.requires
