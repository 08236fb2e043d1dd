-- What each turn of `marks::seen::see_each` keeps true. The values of the symbols passed are marked, and no others beside those before.
use lib.ListN.{take}
use Rattle.marks.specs.Inner.Seen.{Sees}
use Rattle.marks.proofs.seen.see_each.Given as goal

abbrev pub invariant-loop-symbol : goal.invariant-loop-symbol
invariant-loop-symbol l = Sees l.initial.seen (take l.symbol-index l.symbols) l.seen
