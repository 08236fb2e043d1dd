use mathlib.Core.Path.{◌≡◌}
use lib.ListN.{length}
use Rattle.mmc_bits.specs.Inner.Steps.{Passed}
use Rattle.mmc_bits.proofs.place.short_levels.Given as goal

abbrev pub invariant-loop-l : goal.invariant-loop-l
invariant-loop-l g l = Passed g.here.0 g.here.1 l.l l.initial.counters l.counters l.zeros × (length l.counters ≡ 262140)
