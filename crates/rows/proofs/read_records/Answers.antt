-- `rows::read_records` meets its contract. The loop's invariant: every record before `at` is good, and there are `good` of them.
-- The measure is what is left of the bytes, of which a good record takes one at least. Assumes nothing.
use mathlib.Core.Path.{refl, sym}
use native.Mathlib.Omega.{arith}
use Rattle.record.proofs.Results.{not_done}
use Rattle.rows.proofs.Passing.{none_passed, slice_read, one_passed, fewer_left, ends_bad, ends_full}
use Rattle.rows.proofs.read_records.Goals as goal

pub loop-at-init : goal.loop-at-init
loop-at-init c = none_passed _

pub overflow_add-at : goal.overflow_add-at
overflow_add-at c =
    let p = c.loop-at.invariant in
    omega (arith, (one_passed p (slice_read p c.in-Ok.ensures) refl).within)

pub loop-at-preserved : goal.loop-at-preserved
loop-at-preserved c = let p = c.loop-at.invariant in one_passed p (slice_read p c.in-Ok.ensures) refl

pub loop-at-smaller : goal.loop-at-smaller
loop-at-smaller c = let p = c.loop-at.invariant in fewer_left p (slice_read p c.in-Ok.ensures) refl

pub returns-in-Err : goal.returns-in-Err
returns-in-Err c =
    let p = c.loop-at.invariant in
    sym (ends_bad p (slice_read p c.in-Err.ensures) (not_done c.in-Err.refusal) c.loop-at-test.true)

pub returns : goal.returns
returns c = sym (ends_full c.loop-at.invariant c.loop-at-test.false)
