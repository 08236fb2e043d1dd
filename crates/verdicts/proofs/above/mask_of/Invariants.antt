use mathlib.Core.Path.{◌≡◌}
use lib.ListN.{drop}
use Rattle.verdicts.specs.Inner.Planes.{signs}
use Rattle.verdicts.proofs.above.mask_of.Given as goal

abbrev pub invariant-loop-j : goal.invariant-loop-j
invariant-loop-j g l = l.far ≡ signs (drop l.j l.up)
