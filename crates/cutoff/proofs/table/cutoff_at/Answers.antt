-- `table::cutoff_at` meets its contract: the table's rule is a test at each of its 512 entries, which antt computes from the table in the source.
-- Entry number 1 stands first, so the place is one less than the number. Assumes nothing.
use Rattle.std.proofs.Common.{arith, ◌-◌, ◌<◌}
use Rattle.cutoff.specs.Cutoff.{entries, spread, cutoff_at}
use Rattle.cutoff.specs.declared.table.TheConstants.{CUTOFFS}
use Rattle.cutoff.proofs.Follows.{at}
use Rattle.cutoff.proofs.table.cutoff_at.Goals as goal

pub returns : goal.returns
unfolding spread cutoff_at entries
returns c =
    let within : c.args.entry - 1 < 512 = omega arith in
    at cutoff_at 1 CUTOFFS tt c.args.entry c.requires.0 within
