-- `bisect::midpoint_of` meets its contract. It is the definition's two operations. Assumes nothing.
use mathlib.Core.Path.{refl}
use lib.Ieee.{of_bits}
use Rattle.bisect.specs.Bisection.{midpoint}
use Rattle.bisect.proofs.midpoint_of.Goals as goal

pub returns : goal.returns
unfolding midpoint of_bits
returns c = refl
