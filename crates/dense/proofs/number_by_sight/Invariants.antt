-- What each turn of `dense::number_by_sight` keeps true. The table holds the numbers of the values seen so far, and the output their translation.
use mathlib.Core.Path.{◌≡◌}
use lib.ListN.{length, take}
use Rattle.alphabet.specs.Alphabet.{first_sight}
use Rattle.alphabet.specs.Inner.Numbering.{partly}
use Rattle.dense.proofs.Sights.{Entered}
use Rattle.dense.proofs.number_by_sight.Given as goal

abbrev pub invariant-loop-i : goal.invariant-loop-i
invariant-loop-i l =
    (length l.out ≡ length l.initial.out) × Entered (take l.i l.symbols) l.numbers l.next
    × (l.out ≡ partly (first_sight l.symbols) l.symbols l.i l.initial.out)
