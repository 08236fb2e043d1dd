-- What each turn of `vote` keeps true, of the windows before the j-th.
use Rattle.mcw_bits.specs.Inner.Say.{Votes}
use Rattle.mcw_bits.proofs.say.vote.Given as goal

abbrev pub invariant-loop-j : goal.invariant-loop-j
invariant-loop-j l = Votes l.ones l.j l.says
