-- `place` meets its contract: before place 16 the levels up to the place are all that take part, and the others have no history; from there on
-- the last level comes after the others. Who speaks is looked up in the counters as they were before the place. Assumes nothing.
use mathlib.Core.Path.{refl}
use native.Mathlib.Omega.{arith}
use native.Mathlib.Nat.{le_refl}
use Rattle.mmc_bits.proofs.Stepping.{zeros_fit}
use Rattle.mmc_bits.proofs.Placing.{enters_here, bit_low, few_after, goes_on, last_low, all_after}
use Rattle.mmc_bits.proofs.place.place.Goals as goal

-- ---- a place below 16

pub speakers-speaking-requires : goal.speakers-speaking-requires
speakers-speaking-requires g c = let r = c.requires in (enters_here r.0 r.1.0 r.1.1 c.args.i (le_refl c.args.i), omega arith)

pub short_levels-zeros-requires : goal.short_levels-zeros-requires
short_levels-zeros-requires g c = let r = c.requires in (enters_here r.0 r.1.0 refl c.args.i (le_refl c.args.i), c.if-i-lt16.true)

pub judged-masks-requires : goal.judged-masks-requires
judged-masks-requires g c = bit_low c.requires.0

pub returns-then-i-lt16 : goal.returns-then-i-lt16
returns-then-i-lt16 g c =
    let p = c.requires.1.0 in
    few_after c.requires.0 c.if-i-lt16.true (rw p at c.speakers-speaking.ensures) (rw p at c.short_levels-zeros.ensures)
    (record { rights_are = c.judged-masks.ensures.0; speaking_is = c.judged-masks.ensures.1 })

-- ---- any other place

pub speakers-speaking-requires-2 : goal.speakers-speaking-requires-2
speakers-speaking-requires-2 g c = let r = c.requires in (enters_here r.0 r.1.0 r.1.1 16 c.if-i-lt16.false, omega arith)

pub short_levels-zeros-requires-2 : goal.short_levels-zeros-requires-2
short_levels-zeros-requires-2 g c = let r = c.requires in (enters_here r.0 r.1.0 refl 15 (omega arith), omega arith)

pub last_level-last-requires : goal.last_level-last-requires
last_level-last-requires g c =
    let p = c.requires.1.0 in
    rw p (goes_on c.requires.0 c.if-i-lt16.false (rw p at c.short_levels-zeros-2.ensures))

pub overflow_mul-last : goal.overflow_mul-last
overflow_mul-last g c =
    let p = c.requires.1.0 in
    omega (arith, last_low c.requires.0 c.if-i-lt16.false (rw p at c.short_levels-zeros-2.ensures) (rw p at c.last_level-last.ensures))

pub overflow_add-last : goal.overflow_add-last
overflow_add-last g c =
    let p = c.requires.1.0 in
    let q = rw p at c.short_levels-zeros-2.ensures in
    omega (arith, last_low c.requires.0 c.if-i-lt16.false q (rw p at c.last_level-last.ensures), zeros_fit q (omega arith))

pub judged-masks-requires-2 : goal.judged-masks-requires-2
judged-masks-requires-2 g c = bit_low c.requires.0

pub returns : goal.returns
returns g c =
    let p = c.requires.1.0 in
    all_after c.requires.0 c.if-i-lt16.false (rw p at c.short_levels-zeros-2.ensures) (rw p at c.last_level-last.ensures)
    (rw p at c.speakers-speaking-2.ensures) (record { rights_are = c.judged-masks-2.ensures.0; speaking_is = c.judged-masks-2.ensures.1 })
