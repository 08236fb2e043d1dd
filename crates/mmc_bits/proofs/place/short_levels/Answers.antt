-- `short_levels` meets its contract: after l turns the levels to l have passed the place; a turn lends the next level's part to `level_step`, whose
-- contract is one place more there, and what it looked at is the next digit of the mask. Assumes nothing.
use Prim.Native.Nat.{◌*◌, ◌-◌, ◌%◌, ◌^◌}
use mathlib.Core.Path.{◌≡◌, ◌∙◌}
use borrow.Rule.Slice.PartMut.{same_len_mid}
use native.Mathlib.Omega.{arith}
use native.Mathlib.Numerals.{add-one}
use native.Mathlib.Nat.{le_antisymm}
use Rattle.mmc_bits.proofs.Cases.{lean_le}
use Rattle.mmc_bits.proofs.Stepping.{doubled, width, mask_fits, digits_fit, zeros_fit, passed_none, level_asks, level_passes}
use Rattle.mmc_bits.proofs.place.short_levels.Goals as goal

pub loop-l-init : goal.loop-l-init
loop-l-init g c = (passed_none c.requires.0, c.told-counters)

pub overflow_mul-at : goal.overflow_mul-at
overflow_mul-at g c = omega (arith, mask_fits c.args.recent _ (width c.loop-l.l _ (omega arith) (doubled c.loop-l.l (omega arith))))

pub slice_bounds-level_step-end : goal.slice_bounds-level_step-end
slice_bounds-level_step-end g c = omega (arith, width c.loop-l.l _ (omega arith) (doubled c.loop-l.l (omega arith)))

pub level_step-requires : goal.level_step-requires
level_step-requires g c =
    let l = c.loop-l in
    level_asks c.requires.0 l.invariant.0 _ c.loop-l-test.true c.requires.1 (doubled l.l (omega arith))

pub overflow_add-zeros : goal.overflow_add-zeros
overflow_add-zeros g c =
    let l = c.loop-l in
    let fits = digits_fit c.level_step.result l.l c.args.top l.zeros (rw c.level_step.ensures.value (lean_le _ _)) c.loop-l-test.true c.requires.1
    (zeros_fit l.invariant.0 (omega arith)) in
    omega (arith, fits)

pub loop-l-preserved : goal.loop-l-preserved
loop-l-preserved g c =
    let l = c.loop-l in
    let s = c.level_step in
    let w = 2 * 2 ^ l.l % 18446744073709551616 in (
      rw (add-one l.l)
          (level_passes c.requires.0 l.invariant.0 w c.loop-l-test.true c.requires.1 (doubled l.l (omega arith)) s.result s.new.part s.ensures.value
          s.ensures.part_after),
      same_len_mid (w * 2 - 4) (w * 4 - 4 - (w * 2 - 4)) l.counters s.new.part s.auto.part ∙ l.invariant.1,
    )

pub returns : goal.returns
returns g c =
    let e : c.loop-l.l ≡ c.args.top = le_antisymm c.loop-l.auto.l-end c.loop-l-test.false in
    rw e at c.loop-l.invariant.0
