use Prim.Native.Nat.{◌-◌}
use lib.ListN.{length}
use Rattle.race.proofs.Held.{Round}
use Rattle.race.proofs.lead.Given as goal

abbrev pub invariant-loop-j : goal.invariant-loop-j
invariant-loop-j l = Round l.guesses l.initial.scores l.initial.winner l.x l.scores l.winner l.bar l.j

abbrev pub decreases-loop-j : goal.decreases-loop-j
decreases-loop-j l = length l.guesses - l.j
