-- One place of the race over verdicts: what the code needs, and what it does to the winner and to the deficits. Definitions only.
use Rattle.std.specs.Prelude.{◌≡◌, List, ℕ, ◌+◌, ◌^◌, ◌≤◌, ◌<◌, length, get_or}
use Rattle.race.specs.Inner.Held.{counter_limit}
use Rattle.race.specs.declared.Tally.{Tally}
use Rattle.verdicts.specs.Inner.Told.{digit}
use Rattle.verdicts.specs.Inner.Deficits.{gain, successor}
use Rattle.verdicts.specs.Inner.Planes.{bit_at, deficit_at, signs}
use Rattle.verdicts.specs.declared.Masks.{Masks}

-- what `count_masks` needs: the winner speaks if it is right
pub record Countable (t : Tally) (masks : Masks) (winner : ℕ) : Type 0 where
  pub within : winner < 32
  pub spoke : digit masks.rights winner ≤ digit masks.speaking winner
  pub hits_fit : t.hits < counter_limit
  pub run_fits : t.run < counter_limit

-- what the deficits need at a place: `far` is the mask of what is above the planes, and `all` that of every sub-predictor
pub record Passable (far : ℕ) (up : List ℕ) (rights all : ℕ) : Type 0 where
  pub few : length up ≤ 16
  pub whole : all + 1 ≡ 2 ^ length up
  pub fit : (j : ℕ) → get_or up j 0 < counter_limit
  pub far_is : far ≡ signs up
  pub narrow : rights < 2 ^ length up

-- a place takes the deficits of q and up to those of q' and up': who was right is behind by one less, and all by what the largest score gained
pub record Moves (q up : List ℕ) (rights gained : ℕ) (q' : List ℕ) (far' : ℕ) (up' : List ℕ) : Type 0 where
  pub many : length up' ≡ length up
  pub far_is : far' ≡ signs up'
  pub each : (j : ℕ) → j < length up → deficit_at q' up' j + digit rights j ≡ deficit_at q up j + gained

-- and the winner to the next
pub record Onwards (q up : List ℕ) (rights winner : ℕ) (q' : List ℕ) (far' : ℕ) (up' : List ℕ) (winner' gained : ℕ) : Type 0 where
  pub winner_is : winner' ≡ successor (bit_at rights) (deficit_at q up) winner (length up)
  pub gained_is : gained ≡ gain (bit_at rights) (deficit_at q up) (length up)
  pub moves : Moves q up rights gained q' far' up'
