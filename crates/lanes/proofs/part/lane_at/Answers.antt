-- `lanes::part::lane_at` meets its contract. The shift brings the lane down, and the mask takes what is above it away. Assumes nothing.
use Rattle.lanes.proofs.Parting.{lane_read}
use Rattle.lanes.proofs.part.lane_at.Goals as goal

pub returns : goal.returns
returns c = lane_read c.args.w c.args.at
