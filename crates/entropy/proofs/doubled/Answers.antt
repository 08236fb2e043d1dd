-- `entropy::doubled` meets its contract. The loop runs the definition's doublings one by one (`Doubling`), and stops at 1 or after eight, where none
-- is left. Assumes nothing.
use mathlib.Core.Path.{◌≡◌, ◌∙◌}
use native.Mathlib.Omega.{arith}
use lib.Ieee.{of_bits}
use Rattle.entropy.proofs.Rounds.{doubling_first, doubling_next, doubling_at_one, doubling_at_eight}
use Rattle.entropy.proofs.doubled.Goals as goal

pub loop-j-init : goal.loop-j-init
loop-j-init c = doubling_first c.args.p

pub loop-j-preserved : goal.loop-j-preserved
unfolding of_bits
loop-j-preserved c =
    let l = c.loop-j in
    doubling_next c.args.p l.x l.j l.invariant c.loop-j-test.true c.if-not-x.false

-- at 1 or above
pub returns-then-not-x : goal.returns-then-not-x
unfolding of_bits
returns-then-not-x c = let l = c.loop-j in doubling_at_one c.args.p l.x l.j l.invariant c.if-not-x.true

-- after eight doublings
pub returns : goal.returns
returns c =
    let l = c.loop-j in
    let d = doubling_at_eight c.args.p l.x l.j l.invariant c.loop-j-test.false in
    let e : 8 ≡ l.j = omega arith in
    (d.0, e ∙ d.1)
