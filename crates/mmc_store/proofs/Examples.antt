-- The definitions at small captures. Assumes nothing.
use mathlib.Core.Path.{◌≡◌, refl}
use mathlib.Core.List.{List, [], ◌∷◌}
use Prim.Native.Nat.{ℕ}
use Rattle.race.specs.Race.{scored, standing, event, events, hits, stretch, longest}
use Rattle.mmc_bits.specs.Levels.{levels, cap}
use Rattle.mmc_store.specs.Counts.{same, present, count, largest, predicted}
use Rattle.mmc_store.specs.Levels.{when_found, when_absent, found, level, guess}
use Rattle.mmc_store.specs.Mmc.{outcome_of}

-- document 01's literal row 10 30 10 20 10 30, numbered in rising order: a tie goes to the larger symbol
row : List ℕ
row = 0 ∷ 2 ∷ 0 ∷ 1 ∷ 0 ∷ 2 ∷ []

row_correct : (outcome_of levels cap row).hits ≡ 1
unfolding row same present count largest predicted when_found when_absent found level guess scored standing event events hits
row_correct = refl

row_longest : (outcome_of levels cap row).longest ≡ 1
unfolding row same present count largest predicted when_found when_absent found level guess scored standing event events stretch longest
row_longest = refl

-- a cap of one entry and of two: the same capture has two hits, and three
turning : List ℕ
turning = 0 ∷ 1 ∷ 2 ∷ 0 ∷ 1 ∷ 2 ∷ 0 ∷ 1 ∷ []

one_entry : (outcome_of 2 1 turning).hits ≡ 2
unfolding turning same present count largest predicted when_found when_absent found level guess scored standing event events hits
one_entry = refl

two_entries : (outcome_of 2 2 turning).hits ≡ 3
unfolding turning same present count largest predicted when_found when_absent found level guess scored standing event events hits
two_entries = refl

-- two entries a level. Before place 4 the levels 1 and 2 are at the cap and have not its context, and level 3, one entry below, counts it: to keep
-- it there takes a way through the two
rising : List ℕ
rising = 0 ∷ 1 ∷ 2 ∷ 3 ∷ 4 ∷ []

shorter_full : ((level 2 rising 4 1).entries ≡ 2) × ((level 2 rising 4 2).entries ≡ 2) × ((level 2 rising 4 3).entries ≡ 1)
unfolding rising same present count when_found when_absent found level
shorter_full = (refl, refl, refl)

longer_counts : ((level 2 rising 5 1).entries ≡ 2) × ((level 2 rising 5 2).entries ≡ 2) × ((level 2 rising 5 3).entries ≡ 2)
unfolding rising same present count when_found when_absent found level
longer_counts = (refl, refl, refl)
