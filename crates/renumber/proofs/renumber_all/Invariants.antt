-- What each turn of `renumber::renumber_all` keeps true. The symbols passed are translated.
use mathlib.Core.Path.{◌≡◌}
use mathlib.Core.List.{map}
use Prim.Native.Nat.{◌*◌}
use lib.ListN.{take}
use Rattle.alphabet.specs.Alphabet.{rising}
use Rattle.renumber.proofs.renumber_all.Given as goal

abbrev pub invariant-loop-i : goal.invariant-loop-i
invariant-loop-i l = take (l.i * 8) l.out ≡ map (rising l.ranking) (take (l.i * 8) l.ranking)
