-- What each turn of `marks::Ranking::of` keeps true. Each value passed has its number, and the next one's is how many were seen.
use mathlib.Core.Path.{◌≡◌}
use Prim.Native.Nat.{ℕ, ◌<◌}
use lib.ListN.{length, get_or}
use Rattle.alphabet.specs.Alphabet.{rising}
use Rattle.marks.proofs.ranking.Ranking.of.Given as goal

abbrev pub invariant-loop-value : goal.invariant-loop-value
invariant-loop-value l =
    (length l.ranking-inside.numbers ≡ 256) × (l.ranking-inside.size ≡ rising l.symbols l.value) × ((v : ℕ) → v < l.value → get_or l.ranking-inside.numbers v 0 ≡ rising l.symbols v)
