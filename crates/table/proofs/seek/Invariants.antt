use Rattle.table.proofs.Seeking.{Seeking}
use Rattle.table.proofs.seek.Given as goal

abbrev pub invariant-loop-key : goal.invariant-loop-key
invariant-loop-key l = Seeking l.m l.key l.at l.digits

abbrev pub decreases-loop-key : goal.decreases-loop-key
decreases-loop-key l = l.digits
