-- `bisect::log_alpha` meets its contract. The constant is the double nearest to 0.99. Assumes nothing.
use lib.Ieee.{of_bits, round}
use Rattle.bisect.specs.Bisection.{log_alpha}
use Rattle.bisect.proofs.log_alpha.Goals as goal

pub returns : goal.returns
unfolding log_alpha of_bits round
returns c = c.ln.ensures
