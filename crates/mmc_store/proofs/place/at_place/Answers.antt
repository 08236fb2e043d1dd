-- Before each turn the levels below l have spoken and are through with the place, and `carry` is the number of the next one's context at the next
-- place. A context that is missing ends the loop: the longer levels are silent, and at their caps. Assumes nothing.
use mathlib.Core.Path.{◌≡◌, refl, sym, ap}
use lib.ListN.{set}
use native.Mathlib.Omega.{arith}
use Rattle.mmc_bits.specs.Levels.{levels}
use Rattle.mmc_store.proofs.Small.{below}
use Rattle.mmc_store.proofs.Turning.{turns_start, context_few, ready, turns_next, turns_over, turns_left}
use Rattle.mmc_store.proofs.place.at_place.Goals as goal

pub loop-l-init : goal.loop-l-init
loop-l-init g c = turns_start c.requires.0.0 c.requires.0.1 (omega arith, omega arith, λ h. omega arith) refl

pub returns-then-c-eq0-clause-stands : goal.returns-then-c-eq0-clause-stands
returns-then-c-eq0-clause-stands g c = (turns_left c.loop-l.invariant refl c.loop-l-test.true c.if-c-eq0.true).0

pub returns-then-c-eq0-clause-said : goal.returns-then-c-eq0-clause-said
returns-then-c-eq0-clause-said g c = (turns_left c.loop-l.invariant refl c.loop-l-test.true c.if-c-eq0.true).1

pub say-found-requires : goal.say-found-requires
say-found-requires g c =
    let o = c.loop-l.invariant in (
      below _ _ levels c.loop-l-test.true o.least.0,
      context_few o refl c.loop-l-test.true refl c.if-c-eq0.false,
    )

pub count_level-carry-requires : goal.count_level-carry-requires
count_level-carry-requires g c =
    let q = c.requires.1 in
    rw (q.0, q.1) (ready c.loop-l.invariant refl c.loop-l-test.true refl c.if-c-eq0.false c.say-found.ensures)

pub loop-l-preserved : goal.loop-l-preserved
loop-l-preserved g c =
    let q = c.requires.1 in
    turns_next c.loop-l.invariant refl c.loop-l-test.true refl c.if-c-eq0.false c.say-found.ensures
    (rw (q.0, q.1) at c.count_level-carry.ensures)

pub returns-clause-stands : goal.returns-clause-stands
returns-clause-stands g c =
    let e : c.loop-l.l ≡ c.min-top.result = omega arith in
    (turns_over c.loop-l.invariant (ap (λ n. set c.loop-l.nodes n c.loop-l.carry) (sym e)) c.loop-l-test.false).0

pub returns-clause-said : goal.returns-clause-said
returns-clause-said g c = (turns_over c.loop-l.invariant refl c.loop-l-test.false).1
