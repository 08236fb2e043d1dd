-- What each turn of `marks::seen::seen_in` keeps true. The values of the fours passed are marked, and no others.
use mathlib.Core.Bool.{false}
use Prim.Native.Nat.{◌*◌}
use lib.ListN.{take, replicate}
use Rattle.marks.specs.Inner.Seen.{Sees}
use Rattle.marks.proofs.seen.seen_in.Given as goal

abbrev pub invariant-loop-four : goal.invariant-loop-four
invariant-loop-four l = Sees (replicate 256 false) (take (l.four-index * 4) l.symbols) l.seen
