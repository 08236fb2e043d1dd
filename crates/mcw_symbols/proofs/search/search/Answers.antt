-- `search::search` meets its contract. The lanes that begin before bit `at` are done: a marked one has its favourite, and the others are as they
-- were. Assumes nothing.
use Prim.Native.Nat.{◌+◌, ◌<◌}
use native.Mathlib.Omega.{arith}
use Rattle.mcw_symbols.proofs.Settling.{searching_starts, searching_passes, searching_settles, searching_ends, begins}
use Rattle.mcw_symbols.proofs.search.search.Goals as goal
use Rattle.mcw_symbols.proofs.search.search.Goals.{then-lane_at-ne0, else-lane_at-ne0}

pub loop-at-init : goal.loop-at-init
loop-at-init c = (omega arith, searching_starts _)

pub settle-r-requires : goal.settle-r-requires
settle-r-requires c = (c.requires, begins c.loop-at.invariant.1 c.loop-at-test.true)

pub loop-at-preserved : goal.loop-at-preserved
loop-at-preserved c =
    let S = c.loop-at.invariant.1 in
    let has = c.lane_at.ensures in
    let on : c.loop-at.at + 16 < 65 = omega (arith, S.whole) in
    elim c.if-lane_at-ne0.branch [
      | then-lane_at-ne0 v ↦ (on, rw v.r-is (searching_settles S has c.loop-at-test.true v.if-lane_at-ne0.true v.settle-r.ensures))
      | else-lane_at-ne0 v ↦ (on, rw v.r-is (searching_passes S has v.if-lane_at-ne0.false))
    ]

pub returns : goal.returns
returns c = searching_ends c.loop-at.invariant.1 (omega arith)
