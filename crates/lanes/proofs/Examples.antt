-- Words and their lanes, worked out. Assumes nothing.
use mathlib.Core.Path.{◌≡◌, refl}
use mathlib.Core.Bool.{true, false}
use Rattle.lanes.specs.Inner.Lanes.{lane, marked}

-- of 0x0004_0003_0002_0001
pub example_lowest : lane 1125912791875585 0 ≡ 1
unfolding lane
example_lowest = refl

pub example_third : lane 1125912791875585 2 ≡ 3
unfolding lane
example_third = refl

-- of 0x8000_0000_0000_8000, which marks the lowest lane and the highest
pub example_marked : lane 9223372036854808576 3 ≡ marked true
unfolding lane
example_marked = refl

pub example_unmarked : lane 9223372036854808576 1 ≡ marked false
unfolding lane
example_unmarked = refl
