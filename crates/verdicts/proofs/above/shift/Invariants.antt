use Rattle.verdicts.proofs.Shifting.{Moved}
use Rattle.verdicts.proofs.above.shift.Given as goal

abbrev pub invariant-loop-j : goal.invariant-loop-j
invariant-loop-j g l = Moved l.initial.up l.less l.gained l.up l.j
