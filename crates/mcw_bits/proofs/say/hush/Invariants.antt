-- What each turn of `hush` keeps true, of the windows before the j-th.
use Rattle.mcw_bits.specs.Inner.Say.{Hushed}
use Rattle.mcw_bits.proofs.say.hush.Given as goal

abbrev pub invariant-loop-j : goal.invariant-loop-j
invariant-loop-j l = Hushed l.initial.says l.i l.j l.says
