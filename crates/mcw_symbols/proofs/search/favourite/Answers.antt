-- `search::favourite` meets its contract. After y symbols `b` is the favourite of those, and `most` is what the mask leaves of its counts. Before the
-- first any symbol will do, and x is one. Assumes nothing.
use mathlib.Core.Path.{◌≡◌}
use Prim.Native.Nat.{◌+◌, ◌≤◌}
use native.Mathlib.Omega.{arith}
use Rattle.mcw_symbols.proofs.Finding.{finding_starts, finding-less, finding_more, finding_later, finding_sooner}
use Rattle.mcw_symbols.proofs.search.favourite.Goals as goal
use Rattle.mcw_symbols.proofs.search.favourite.Goals.{
  then-most-v+then-most-v-2,
  then-most-v+else-most-v-2+then-latest-b,
  then-most-v+else-most-v-2+else-latest-b,
  else-most-v,
}

pub loop-y-init : goal.loop-y-init
loop-y-init c = (omega arith, c.requires.within, finding_starts c.masked-most.ensures)

pub loop-y-preserved : goal.loop-y-preserved
loop-y-preserved c =
    let F = c.loop-y.invariant.2 in
    let has = c.masked-v.ensures in
    let b = c.if-most-v.b in
    let most = c.if-most-v.most in
    let on : c.loop-y.y + 1 ≤ c.args.k = omega arith in
    elim c.if-most-v.branch [
      | then-most-v+then-most-v-2 v ↦ (on, rw v.b-is (omega arith), finding_more F has b most v.b-is v.most-is v.if-most-v-2.true)
      | then-most-v+else-most-v-2+then-latest-b v ↦ (
        on,
        rw v.b-is (omega arith),
        finding_later F has b most v.b-is v.most-is v.if-most-v.true (omega (arith, v.if-latest-b.true)),
      )
      | then-most-v+else-most-v-2+else-latest-b v ↦ (
        on,
        rw v.b-is (omega arith),
        finding_sooner F has b most v.b-is v.most-is (omega (arith, v.if-most-v.true, v.if-most-v-2.false)) (omega (arith, v.if-latest-b.false)),
      )
      | else-most-v v ↦ (on, rw v.b-is (omega arith), finding-less F has b most v.b-is v.most-is (omega (arith, v.if-most-v.false)))
    ]

pub returns : goal.returns
returns c =
    let e : c.loop-y.y ≡ c.args.k = omega arith in
    record { found = λ q m. record { within = c.loop-y.invariant.1; foremost = rw e at (c.loop-y.invariant.2.foremost q m) }; within = c.loop-y.invariant.1 }
