-- `last_level` meets its contract: the part that is lent is the last level's, and what `last_step` does to it is one place more under the cap.
-- Assumes nothing.
use mathlib.Core.Path.{refl}
use native.Mathlib.Omega.{arith}
use Rattle.mmc_bits.proofs.Stepping.{last_fits, last_asks, last_ends}
use Rattle.mmc_bits.proofs.place.last_level.Goals as goal

pub overflow_mul-recent : goal.overflow_mul-recent
overflow_mul-recent g c = omega (arith, last_fits c.requires 65536 refl)

pub last_step-requires : goal.last_step-requires
last_step-requires g c = last_asks c.requires 65536 refl

pub returns : goal.returns
returns g c =
    let s = c.last_step in
    last_ends c.requires 65536 refl _ _ _ s.ensures.zero_value s.ensures.stored_value s.ensures.part_after
