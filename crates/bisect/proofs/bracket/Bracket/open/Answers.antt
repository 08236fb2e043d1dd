-- `Bracket::open` meets its contract. 1 / 0 and -1 / 0 are the infinities. Assumes nothing.
use lib.Ieee.{of_bits, neg, div}
use Rattle.bisect.specs.Bisection.{opening}
use Rattle.bisect.proofs.bracket.Bracket.open.Goals as goal

pub returns : goal.returns
unfolding opening of_bits neg div
returns c = rw (c.value_at.ensures, c.midpoint_of-p.ensures)
