-- `rows::start_of` meets its contract. Every record before `at` is good, and there are as many of them as turns, at most `place`. Assumes nothing.
use mathlib.Core.Path.{refl}
use native.Mathlib.Omega.{arith}
use Rattle.record.proofs.Results.{not_done}
use Rattle.rows.proofs.Passing.{none_passed, slice_read, one_passed, reached, not_passed}
use Rattle.rows.proofs.start_of.Goals as goal

pub loop-init : goal.loop-init
loop-init c = none_passed _

pub overflow_add-at : goal.overflow_add-at
overflow_add-at c =
    let p = c.loop.invariant in
    omega (arith, (one_passed p (slice_read p c.in-Ok.ensures) refl).within)

pub loop-preserved : goal.loop-preserved
loop-preserved c = let p = c.loop.invariant in one_passed p (slice_read p c.in-Ok.ensures) refl

pub returns-in-Err : goal.returns-in-Err
returns-in-Err c =
    let p = c.loop.invariant in
    (not_passed p (slice_read p c.in-Err.ensures) (not_done c.in-Err.field-0) (omega arith), p.within)

pub returns : goal.returns
returns c = let p = c.loop.invariant in (reached p (omega arith), p.within)
