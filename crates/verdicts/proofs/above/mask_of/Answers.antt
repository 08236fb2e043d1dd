-- `mask_of` meets its contract: from the end on, `far` is the mask of the numbers that have been passed. Assumes nothing.
use Prim.Native.Nat.{◌-◌}
use mathlib.Core.Path.{ap, ◌∙◌}
use native.Mathlib.Omega.{arith}
use lib.ListN.{drop}
use Rattle.verdicts.specs.Inner.Planes.{signs}
use Rattle.verdicts.proofs.Signs.{signs_end, signs_small, signs_back}
use Rattle.verdicts.proofs.above.mask_of.Goals as goal

pub loop-j-init : goal.loop-j-init
loop-j-init g c = signs_end c.args.up.now ∙ ap (λ n. signs (drop n c.args.up.now)) c.told-up

pub overflow_mul-far : goal.overflow_mul-far
overflow_mul-far g c = omega (arith, c.loop-j.invariant, signs_small c.args.up.now c.loop-j.j (omega arith))

pub overflow_add-far : goal.overflow_add-far
overflow_add-far g c =
    let l = c.loop-j in
    omega (arith, signs_back c.args.up.now l.far l.j c.loop-j-test.true (omega arith) l.invariant, signs_small c.args.up.now (l.j - 1) (omega arith))

pub loop-j-preserved : goal.loop-j-preserved
loop-j-preserved g c = signs_back c.args.up.now c.loop-j.far c.loop-j.j c.loop-j-test.true (omega arith) c.loop-j.invariant
