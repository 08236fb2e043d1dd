-- `lanes::choose::pick` meets its contract. A mark less a 1 in its own lane masks all that can differ between a and b there, and nothing
-- masks where there is no mark. Assumes nothing.
use native.Mathlib.Omega.{arith}
use Rattle.lanes.proofs.Choosing.{picked}
use Rattle.lanes.proofs.choose.pick.Goals as goal

pub returns : goal.returns
returns c = picked c.args.marks (omega arith) c.requires.0 c.args.a c.args.b c.requires.1.0 c.requires.1.1
