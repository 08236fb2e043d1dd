-- What `Doubling` says of the doublings so far.
use Rattle.entropy.proofs.Rounds.{Doubling}
use Rattle.entropy.proofs.doubled.Given as goal

abbrev pub invariant-loop-j : goal.invariant-loop-j
invariant-loop-j l = Doubling l.p l.x l.j
