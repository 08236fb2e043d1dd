-- The run is over the first numbers of the space, as many as its tables take; after it all are cleared. Assumes nothing.
use mathlib.Core.Path.{ap}
use native.Mathlib.Omega.{arith}
use lib.ListN.{length}
use Rattle.std.proofs.lemmas.Grind.{common_steps}
use Rattle.race.proofs.Standing.{no_score}
use Rattle.mmc_bits.specs.Levels.{levels}
use Rattle.mmc_store.specs.Space.{size}
use Rattle.mmc_symbols.proofs.Running.{all_zero, size_is, lent_long}
use Rattle.mmc_symbols.proofs.mmc_symbols.Goals as goal

pub returns-clause-space_after : goal.returns-clause-space_after
returns-clause-space_after c =
    let zeros = c.fill.ensures.after (λ y e. e) in
    let many = ap length zeros in
    let long = lent_long _ c.args.space.now c.run-outcome.ensures.long c.told-space in
    all_zero (size levels) _ (grind (arith, common_steps, many, size_is, long))
    (λ j l. grind (arith, common_steps, no_score, zeros, many, size_is, long))
