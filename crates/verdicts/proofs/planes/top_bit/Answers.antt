-- `top_bit` meets its contract: the leading zeros say where the highest digit stands. Assumes nothing.
use Prim.Native.Nat.{◌<◌}
use native.Mathlib.Omega.{arith}
use Rattle.verdicts.proofs.Tops.{top_none, top_small, top_last}
use Rattle.verdicts.proofs.planes.top_bit.Goals as goal

pub returns-then-x-eq0 : goal.returns-then-x-eq0
returns-then-x-eq0 c = record { is = λ m l. rw c.if-x-eq0.true (top_none c.args.w m) }

pub overflow_sub-result : goal.overflow_sub-result
overflow_sub-result c = let p : 0 < c.args.x = omega arith in omega (arith, top_small c.args.x p c.ranges.x.fits)

pub returns : goal.returns
returns c =
    let p : 0 < c.args.x = omega arith in
    record { is = λ m l. top_last c.args.x p c.ranges.x.fits c.args.w m l }
