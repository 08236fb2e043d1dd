-- `counts::doubles::at_most_one` meets its contract: std's smaller of a double and 1.0. Assumes nothing.
use mathlib.Core.Path.{sym, subst}
use lib.Dec.{T}
use lib.Ieee.{of_bits}
use Rattle.counts.proofs.One.{smaller_is}
use Rattle.counts.proofs.doubles.at_most_one.Goals as goal

pub returns : goal.returns
unfolding of_bits
returns c = smaller_is c.args.x c.min.result (subst T (sym c.well_formed.0.1) tt) c.min.ensures.value c.min.ensures.unequal
