-- Before each place the lent numbers keep what every level has counted, and the race stands where its definition says; `at_place` and `step` take
-- both over the place. The first two places find every level silent, so they change nothing in the race. Assumes nothing.
use mathlib.Core.Path.{refl, ap, ◌∙◌}
use native.Mathlib.Omega.{arith}
use lib.Dec.{lit<}
use lib.ListN.{length}
use Rattle.std.proofs.lemmas.Grind.{common_steps}
use Rattle.race.proofs.Standing.{no_score}
use Rattle.mmc_bits.specs.Levels.{levels, cap}
use Rattle.mmc_store.proofs.Small.{byte}
use Rattle.mmc_symbols.proofs.Running.{all_zero, run_start, run_room, place_of, run_next, run_ends}
use Rattle.mmc_symbols.proofs.run.Goals as goal

pub loop-place-init : goal.loop-place-init
loop-place-init c =
    let zeros = c.fill.ensures.after (λ y e. e) in
    let many = ap length zeros in
    run_start levels cap (length c.args.store.now) c.args.s.now _ c.told-store
    (all_zero (length c.args.store.now) _ (grind (arith, common_steps, many, c.told-store)) (λ j l. grind (arith, common_steps, no_score, zeros, many, c.told-store)))
    (lit< tt) c.requires (λ j. byte (c.type_inv.s j)) c.new-race.ensures

pub at_place-requires : goal.at_place-requires
at_place-requires c = ((c.loop-place.invariant.stands, place_of c.loop-place.invariant c.loop-place-test.true), (refl, refl))

pub step-requires : goal.step-requires
step-requires c = (omega arith, (omega arith, run_room c.loop-place.invariant))

pub loop-place-preserved : goal.loop-place-preserved
loop-place-preserved c =
    let told = c.at_place.ensures in
    run_next c.loop-place.invariant c.loop-place-test.true told.said c.step.ensures told.stands

pub returns : goal.returns
returns c =
    record {
      value = c.outcome.ensures ∙ run_ends c.loop-place.invariant c.loop-place-test.false;
      long = c.loop-place.invariant.stands.held.long;
    }
