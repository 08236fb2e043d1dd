-- `sqrt::guess::guess` meets its contract: the pattern that it makes of q is below that of the infinity, so no NaN's, and the rest asks nothing.
-- Assumes nothing.
use native.Mathlib.Omega.{arith}
use Rattle.sqrt.proofs.Patterns.{finite_no_nan}
use Rattle.sqrt.proofs.guess.guess.Goals as goal

pub float_from_bits-t : goal.float_from_bits-t
float_from_bits-t c = finite_no_nan _ (omega arith)
