-- The bounds enclose the root's digits all along. The measure is what is between them.
use Rattle.std.proofs.Common.{◌-◌}
use Rattle.zero_count.specs.Inner.Bounds.{Encloses}
use Rattle.zero_count.proofs.narrow.Given as goal

abbrev pub invariant-loop-low : goal.invariant-loop-low
invariant-loop-low l = Encloses 52 l.n l.low l.high

abbrev pub decreases-loop-low : goal.decreases-loop-low
decreases-loop-low l = l.high - l.low
