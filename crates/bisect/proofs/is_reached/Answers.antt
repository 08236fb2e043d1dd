-- `bisect::is_reached` meets its contract. The constants are DBL_MIN and DBL_EPSILON. Assumes nothing.
use mathlib.Core.Path.{◌∙◌}
use lib.Ieee.{of_bits}
use Rattle.bisect.specs.Bisection.{reached}
use Rattle.bisect.proofs.is_reached.Goals as goal

pub returns : goal.returns
unfolding reached of_bits
returns c = c.rel_epsilon_equal.ensures ∙ rw c.log_alpha.ensures
