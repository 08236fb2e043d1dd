-- `function::fixed_point` meets its contract. After i updates the 66 - i that may follow lead where the definition leads.
-- Assumes nothing.
use lib.Ieee.{of_bits}
use Rattle.function.specs.Function.{updates, fixed_point}
use Rattle.function.proofs.Settling.{settles_on, settles_here, settles_last}
use Rattle.function.proofs.fixed_point.Goals as goal

pub loop-init : goal.loop-init
unfolding fixed_point of_bits
loop-init c = rw (c.power.ensures, c.from.ensures)

pub loop-preserved : goal.loop-preserved
unfolding of_bits
loop-preserved c =
    let l = c.loop in
    rw c.update-x.ensures (settles_on updates _ _ l.x l.xlast l.counter l.invariant c.loop-test.true c.if-not-x-xlast.false)

pub returns-then-not-x-xlast : goal.returns-then-not-x-xlast
unfolding of_bits
returns-then-not-x-xlast c =
    let l = c.loop in
    settles_here updates _ _ l.x l.xlast l.counter l.invariant c.loop-test.true c.if-not-x-xlast.true

pub returns-after-loop : goal.returns-after-loop
returns-after-loop c =
    let l = c.loop in
    settles_last updates _ _ l.x l.xlast l.counter l.invariant c.loop-test.false
