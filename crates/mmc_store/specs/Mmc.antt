-- MultiMMC over a general alphabet: the race of its levels. Definitions only.
use Rattle.std.specs.Prelude.{ℕ, List}
use Rattle.race.specs.declared.Outcome.{Outcome}
use Rattle.race.specs.Race.{outcome_over}
use Rattle.mmc_bits.specs.Levels.{first_place}
use Rattle.mmc_store.specs.Levels.{guess}

-- how the race of n levels over the symbols s ends
abbrev pub outcome_of : ℕ → ℕ → List ℕ → Outcome
outcome_of n cap s = outcome_over n first_place (guess cap s) s
