-- What each turn of `rising::copy` keeps true. The symbols passed stand in the output as they are.
use mathlib.Core.Path.{◌≡◌}
use lib.ListN.{take}
use Rattle.rising.proofs.copy.Given as goal

abbrev pub invariant-loop-i : goal.invariant-loop-i
invariant-loop-i l = take l.i l.out ≡ take l.i l.symbols
