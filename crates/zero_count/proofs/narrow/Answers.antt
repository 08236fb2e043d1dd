-- `zero_count::narrow` meets its contract: the bounds enclose the root's digits all along, and when they are next to each other the lower one is the
-- digits. The measure is what is between them.
-- Assumes nothing.
use Rattle.std.proofs.Common.{◌+◌, ◌/◌, sym, ◌∙◌, arith}
use Rattle.zero_count.proofs.Search.{raise, lower, met}
use Rattle.zero_count.proofs.narrow.Goals as goal

pub loop-low-init : goal.loop-low-init
loop-low-init c = c.requires

pub overflow_add-low : goal.overflow_add-low
overflow_add-low c = omega (arith, c.loop-low.invariant.apart, c.loop-low.invariant.within)

pub overflow_add-middle : goal.overflow_add-middle
overflow_add-middle c = omega (arith, c.loop-low.invariant.apart, c.loop-low.invariant.within)

pub low_enough-requires : goal.low_enough-requires
low_enough-requires c = omega (arith, c.loop-low.invariant.apart, c.loop-low.invariant.within)

pub loop-low-preserved-then-low_enough : goal.loop-low-preserved-then-low_enough
loop-low-preserved-then-low_enough c =
    let l = c.loop-low in
    raise c.args.n l.low ((l.low + l.high) / 2) l.high l.invariant (omega arith) (omega arith)
    (sym c.low_enough.ensures ∙ c.if-low_enough.true)

pub loop-low-preserved : goal.loop-low-preserved
loop-low-preserved c =
    let l = c.loop-low in
    lower c.args.n l.low ((l.low + l.high) / 2) l.high l.invariant (omega arith) (omega arith)
    (sym c.low_enough.ensures ∙ c.if-low_enough.false)

pub returns : goal.returns
returns c = met c.args.n c.loop-low.low c.loop-low.high c.loop-low.invariant (omega arith)
