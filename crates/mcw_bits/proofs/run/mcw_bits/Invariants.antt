-- What each turn of `run::mcw_bits` keeps true: `Running`, of the bits that are left.
use mathlib.Core.Path.{◌≡◌}
use lib.ListN.{length}
use Rattle.std.specs.Iterator.Adapters.{enumerate_count, enumerate_source}
use Rattle.mcw_bits.proofs.Running.{Running}
use Rattle.mcw_bits.proofs.run.mcw_bits.Given as goal

abbrev pub invariant-loop-i : goal.invariant-loop-i
invariant-loop-i l =
    (goal.iterator-loop-i).can_next l.i-iterator × (goal.iterator-loop-i).is_finite l.i-iterator
    × Running l.fn.source (enumerate_count l.i-iterator) (enumerate_source l.i-iterator) l.ring l.ones l.leader l.scores l.t
    × (length l.says ≡ 4)
