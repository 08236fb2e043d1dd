-- `lanes::part::put` meets its contract. What the lane holds is taken away, which leaves it 0, and v is added there alone: neither carries,
-- so the other lanes stay. Assumes nothing.
use mathlib.Core.Path.{◌≡◌}
use Prim.Native.Nat.{◌*◌, ◌/◌}
use native.Mathlib.Omega.{arith}
use Rattle.lanes.proofs.Parting.{put_takes, put_fits, put_told}
use Rattle.lanes.proofs.part.put.Goals as goal

pub overflow_sub-result : goal.overflow_sub-result
overflow_sub-result c =
    let a = c.args in
    let e : a.at ≡ 16 * (a.at / 16) = omega arith in
    put_takes a.w a.at (a.at / 16) c.lane_at.result a.v (omega arith) e (omega arith) (c.lane_at.ensures (a.at / 16) e) c.requires.1

pub overflow_add-result : goal.overflow_add-result
overflow_add-result c =
    let a = c.args in
    let e : a.at ≡ 16 * (a.at / 16) = omega arith in
    omega (
      arith,
      put_fits a.w a.at (a.at / 16) c.lane_at.result a.v (omega arith) e (omega arith) (c.lane_at.ensures (a.at / 16) e) c.requires.1,
    )

pub returns : goal.returns
returns c =
    let a = c.args in
    λ q e. put_told a.w a.at q c.lane_at.result a.v (omega arith) e (omega arith) (c.lane_at.ensures q e) c.requires.1
