use mathlib.Core.Path.{◌≡◌}
use lib.ListN.{drop}
use Rattle.verdicts.proofs.Claiming.{ors}
use Rattle.verdicts.proofs.planes.claim.Given as goal

abbrev pub invariant-loop-plane : goal.invariant-loop-plane
invariant-loop-plane l = ors l.high (drop l.plane-index l.plane-items) ≡ ors l.far l.plane-items
