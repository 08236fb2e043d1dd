-- `mmc_bits` meets its contract: the counters are cleared, and the run is over all places from there. Assumes nothing.
use mathlib.Core.Path.{refl, ap}
use native.Mathlib.Omega.{arith}
use lib.ListN.{length}
use Rattle.std.proofs.lemmas.Grind.{common_steps}
use Rattle.race.proofs.Standing.{no_score}
use Rattle.mmc_bits.specs.Levels.{levels}
use Rattle.mmc_bits.specs.Space.{size}
use Rattle.mmc_bits.proofs.Stepping.{size_is}
use Rattle.mmc_run.proofs.Running.{all_zero}
use Rattle.mmc_run.proofs.mmc_bits.Goals as goal

pub run-requires : goal.run-requires
run-requires c =
    let zeros = c.fill.ensures.after (λ y e. e) in
    let many = ap length zeros in
    (refl, all_zero (size levels) _ (grind (arith, common_steps, many, size_is, c.told-counters)) (λ j l. grind (arith, common_steps, no_score, zeros, size_is, c.told-counters)))
