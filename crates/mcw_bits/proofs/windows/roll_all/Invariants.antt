-- What each turn of `roll_all` keeps true, of the windows before the j-th.
use Rattle.mcw_bits.specs.Inner.Ones.{Rolled}
use Rattle.mcw_bits.proofs.windows.roll_all.Given as goal

abbrev pub invariant-loop-j : goal.invariant-loop-j
invariant-loop-j l = Rolled l.initial.ones l.ring l.i l.x l.j l.ones
