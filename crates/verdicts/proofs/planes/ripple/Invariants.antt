use Rattle.verdicts.proofs.Rippling.{Rippling}
use Rattle.verdicts.proofs.planes.ripple.Given as goal

abbrev pub invariant-loop-plane : goal.invariant-loop-plane
invariant-loop-plane l = Rippling l.initial.planes l.fn.c l.x l.planes l.carry l.plane-index
