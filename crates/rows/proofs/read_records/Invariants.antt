-- What each turn of `rows::read_records` keeps true. The loop's invariant: every record before `at` is good, and there are `good` of them. The
-- measure is what is left of the bytes, of which a good record takes one at least.
use Prim.Native.Nat.{◌-◌}
use lib.ListN.{length}
use Rattle.rows.proofs.Passing.{Passed}
use Rattle.rows.proofs.read_records.Given as goal

abbrev pub invariant-loop-at : goal.invariant-loop-at
invariant-loop-at l = Passed l.bytes l.good l.at

abbrev pub decreases-loop-at : goal.decreases-loop-at
decreases-loop-at l = length l.bytes - l.at
