use Prim.Native.Nat.{◌-◌, ◌≤◌, ◌<◌}
use Rattle.mcw_symbols.proofs.Finding.{Finding}
use Rattle.mcw_symbols.proofs.search.favourite.Given as goal

abbrev pub invariant-loop-y : goal.invariant-loop-y
invariant-loop-y l = (l.y ≤ l.k) × (l.b < l.k) × Finding l.cnt l.latest l.mask l.y l.b l.most

abbrev pub decreases-loop-y : goal.decreases-loop-y
decreases-loop-y l = l.k - l.y
