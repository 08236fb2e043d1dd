use Prim.Native.Nat.{◌-◌, ◌<◌}
use Rattle.mcw_symbols.proofs.Settling.{Searching}
use Rattle.mcw_symbols.proofs.search.search.Given as goal

abbrev pub invariant-loop-at : goal.invariant-loop-at
invariant-loop-at l = (l.at < 65) × Searching l.cnt l.latest l.k l.need l.initial.r l.r l.at

abbrev pub decreases-loop-at : goal.decreases-loop-at
decreases-loop-at l = 64 - l.at
