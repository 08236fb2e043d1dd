-- What `Squaring` says of the squarings so far.
use Rattle.entropy.proofs.Rounds.{Squaring}
use Rattle.entropy.proofs.log_units.Given as goal

abbrev pub invariant-loop : goal.invariant-loop
invariant-loop l = Squaring l.start l.x l.bits l.counter
