-- `ripple` meets its contract: each plane adds or takes away digit by digit and passes on what is left. Assumes nothing.
use native.Mathlib.Omega.{arith}
use Rattle.verdicts.proofs.Rippling.{ripples, rippling_none, rippling_step, rippling_ends}
use Rattle.verdicts.proofs.planes.ripple.Goals as goal

pub loop-plane-init : goal.loop-plane-init
loop-plane-init c = rippling_none _ _ _

pub loop-plane-preserved : goal.loop-plane-preserved
loop-plane-preserved c = rippling_step c.loop-plane.invariant (omega arith)

pub returns : goal.returns
returns c =
    let a = c.args in
    let e = rippling_ends c.loop-plane.invariant (omega (arith, c.loop-plane.invariant.many)) in
    rw (e.0, e.1) (ripples a.planes.now a.c a.x c.told-planes)
