-- `run::mcw_bits` meets its contract. Assumes nothing.
use mathlib.Core.Path.{refl, sym, ap, ◌∙◌}
use mathlib.Core.Logic.{inl}
use Prim.Native.Nat.{ℕ, ◌+◌}
use native.Mathlib.Omega.{arith}
use Rattle.mcw_bits.proofs.Running.{asks, at, counts, ends, few_left, goes, leads, rolling, scores_four, starts, winner_within}
use Rattle.mcw_bits.proofs.run.mcw_bits.Goals as goal

pub loop-i-init : goal.loop-i-init
loop-i-init c =
    let a = c.enumerate-i-items.ensures in
    let b = c.into_iter-i-iterator.ensures.into_iter_gives in
    let R = starts c.args.source c.bits.ensures.all in
    rw (b, a.source, a.count) ((tt, tt, inl (omega (arith, few_left c.bits.ensures.bits R))), tt, R, refl)

pub say_majorities-requires-clause-small : goal.say_majorities-requires-clause-small
say_majorities-requires-clause-small c = asks c.bits.ensures.bits (at c.in-Some.ensures.steps.1 c.loop-i.invariant.2)

pub offset_bounds-says-winner : goal.offset_bounds-says-winner
offset_bounds-says-winner c = omega (arith, winner_within c.bits.ensures.bits c.loop-i.invariant.2)

pub bounds-says-winner : goal.bounds-says-winner
bounds-says-winner c = winner_within c.bits.ensures.bits c.loop-i.invariant.2

pub count-t-requires : goal.count-t-requires
count-t-requires c =
    let st = c.in-Some.ensures.steps in
    rw c.from-x.ensures (counts c.bits.ensures.bits (at st.1 c.loop-i.invariant.2) st.0)

pub lead-leader-requires : goal.lead-leader-requires
lead-leader-requires c =
    let st = c.in-Some.ensures.steps in
    rw c.from-x.ensures (leads c.bits.ensures.bits (at st.1 c.loop-i.invariant.2) st.0 c.say_majorities.ensures.full)

pub roll_all-requires : goal.roll_all-requires
roll_all-requires c = let st = c.in-Some.ensures.steps in rolling c.bits.ensures.bits (at st.1 c.loop-i.invariant.2) st.0

pub loop-i-preserved : goal.loop-i-preserved
loop-i-preserved c =
    let st = c.in-Some.ensures.steps in
    let led = rw c.from-x.ensures at c.lead-leader.ensures in
    let counted = rw c.from-x.ensures at c.count-t.ensures in
    let R = goes c.bits.ensures.bits (at st.1 c.loop-i.invariant.2) st.0 c.say_majorities.ensures led counted c.roll_all.ensures in
    let n = st.2 ∙ ap (λ (k : ℕ). k + 1) (sym st.1) in
    rw n ((tt, tt, inl (omega (arith, few_left c.bits.ensures.bits R))), tt, R, c.say_majorities.ensures.full)

pub ended-requires : goal.ended-requires
ended-requires c =
    let R = c.loop-i.invariant.2 in
    omega (arith, winner_within c.bits.ensures.bits R, scores_four c.bits.ensures.bits R)

pub returns : goal.returns
returns c = c.ended.ensures ∙ ends c.bits.ensures.bits c.loop-i.invariant.2 c.in-None.ensures.steps.0.0
