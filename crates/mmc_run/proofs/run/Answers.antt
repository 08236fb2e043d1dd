-- `run` meets its contract: before place i it holds the counters, the context, the number of stored pairs and the race of the places before i, and
-- `place` and `step` take each of them over the place. Assumes nothing.
use mathlib.Core.Path.{refl, ◌∙◌}
use native.Mathlib.Omega.{arith}
use Rattle.mmc_run.proofs.Running.{running_starts, running_ends, running_leaves, running_room, place_before, recent_fits, place_fair, running_next}
use Rattle.mmc_run.proofs.run.Goals as goal

pub loop-i-init : goal.loop-i-init
loop-i-init g c =
    let e = c.enumerate-i-items.ensures in
    let q = c.requires in
    rw (c.into_iter-i-iterator.ensures.into_iter_gives, e.count)
    (running_starts (rw q.0 at c.bits.ensures.bits) (e.source ∙ c.bits.ensures.all ∙ q.0) q.1 c.new-race.ensures)

pub place-passed-requires : goal.place-passed-requires
place-passed-requires g c =
    let s = c.in-Some.ensures.steps in
    (rw s.1 (place_before c.loop-i.invariant s.0), (refl, refl))

pub step-requires : goal.step-requires
step-requires g c =
    let s = c.in-Some.ensures.steps in
    let F = place_fair c.loop-i.invariant s.0 (rw s.1 at c.place-passed.ensures) in
    (omega arith, (running_room c.loop-i.invariant, (F.few, F.spoke _)))

pub overflow_mul-recent : goal.overflow_mul-recent
overflow_mul-recent g c = omega (arith, recent_fits c.loop-i.invariant c.in-Some.ensures.steps.0)

pub overflow_add-recent : goal.overflow_add-recent
overflow_add-recent g c = omega (arith, recent_fits c.loop-i.invariant c.in-Some.ensures.steps.0)

pub loop-i-preserved : goal.loop-i-preserved
loop-i-preserved g c =
    let s = c.in-Some.ensures.steps in
    rw s.2 (running_next c.loop-i.invariant s.0 (rw s.1 at c.place-passed.ensures) c.place-passed.array_long c.step.ensures)

pub returns-clause-value : goal.returns-clause-value
returns-clause-value g c = c.outcome.ensures ∙ running_ends c.loop-i.invariant c.in-None.ensures.steps.0.0

pub returns-clause-counters_after : goal.returns-clause-counters_after
returns-clause-counters_after g c = running_leaves c.loop-i.invariant c.in-None.ensures.steps.0.0
