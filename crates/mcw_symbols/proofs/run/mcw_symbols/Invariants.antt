-- What each turn of `run::mcw_symbols` keeps true: what is held of the windows, and the race over the places before.
use mathlib.Core.Path.{◌≡◌}
use Rattle.mcw_symbols.specs.Inner.Kept.{Kept}
use Rattle.mcw_symbols.proofs.Scoring.{raced}
use Rattle.mcw_symbols.proofs.run.mcw_symbols.Given as goal

abbrev pub invariant-loop-i : goal.invariant-loop-i
invariant-loop-i l = Kept l.s l.k l.i l.cnt l.latest l.c × (l.race ≡ raced l.s l.i)
