-- `speakers` meets its contract: from level `top` downwards the levels above have no count; the first level that has one is the longest, and all
-- shorter ones have one too. Assumes nothing.
use native.Mathlib.Omega.{arith}
use Rattle.mmc_bits.proofs.Seeking.{shifted, stand_inside, sought_narrow, sought_none, sought_found, sought_next}
use Rattle.mmc_bits.proofs.speakers.speakers.Goals as goal

pub loop-shorter-init : goal.loop-shorter-init
loop-shorter-init g c j l k = absurd (omega arith)

pub returns-then-counters-at-ne0 : goal.returns-then-counters-at-ne0
returns-then-counters-at-ne0 g c =
    let l = c.loop-shorter in
    let few = c.requires.1 in
    sought_found c.requires.0 few c.loop-shorter-test.true l.auto.shorter (shifted l.shorter c.loop-shorter-test.true (omega arith))
    c.if-counters-at-ne0.true l.invariant

pub loop-shorter-preserved : goal.loop-shorter-preserved
loop-shorter-preserved g c =
    let l = c.loop-shorter in
    sought_next c.requires.0 c.requires.1 c.loop-shorter-test.true l.auto.shorter (shifted l.shorter c.loop-shorter-test.true (omega arith))
    c.if-counters-at-ne0.false l.invariant

pub returns : goal.returns
returns g c = sought_none c.requires.0 c.requires.1 (λ j l k. c.loop-shorter.invariant j (omega arith) k)

pub bounds-counters-at : goal.bounds-counters-at
bounds-counters-at g c =
    let l = c.loop-shorter in
    let narrow = sought_narrow c.requires.0 c.requires.1 c.loop-shorter-test.true l.auto.shorter (shifted l.shorter c.loop-shorter-test.true (omega arith)) in
    omega (arith, stand_inside c.args.recent _ narrow.0 narrow.1)

pub bounds-counters-at-in-loop-shorter : goal.bounds-counters-at-in-loop-shorter
bounds-counters-at-in-loop-shorter g c =
    let l = c.loop-shorter in
    let narrow = sought_narrow c.requires.0 c.requires.1 c.loop-shorter-test.true l.auto.shorter (shifted l.shorter c.loop-shorter-test.true (omega arith)) in
    stand_inside c.args.recent _ narrow.0 narrow.1
