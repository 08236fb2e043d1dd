-- The definitions at small captures, computed. Assumes nothing.
use Prim.Native.Nat.{ℕ}
use mathlib.Core.Path.{◌≡◌, refl}
use mathlib.Core.List.{List, [], ◌∷◌, map}
use Rattle.race.specs.Race.{predictions, scored, standing, event, events, hits, stretch, longest}
use Rattle.mmc_bits.specs.Levels.{levels, cap, first_place}
use Rattle.mmc_bits.specs.Counters.{before, context, pair, places, occurs, fresh, ahead, counter}
use Rattle.mmc_bits.specs.Guesses.{verdict, own, guess}
use Rattle.mmc_bits.specs.Mmc.{outcome_of}

-- C, N and the longest run
row : ℕ → ℕ → List ℕ → List ℕ
row n cap b = (outcome_of n cap b).hits ∷ predictions first_place b ∷ (outcome_of n cap b).longest ∷ []

-- the rows of document 01 on bits: 0000, 0101, 0011, 00101, 0001, 0110
rows : map (row levels cap)
    ((0 ∷ 0 ∷ 0 ∷ 0 ∷ []) ∷ (0 ∷ 1 ∷ 0 ∷ 1 ∷ []) ∷ (0 ∷ 0 ∷ 1 ∷ 1 ∷ []) ∷ (0 ∷ 0 ∷ 1 ∷ 0 ∷ 1 ∷ []) ∷ (0 ∷ 0 ∷ 0 ∷ 1 ∷ []) ∷ (0 ∷ 1 ∷ 1 ∷ 0 ∷ []) ∷ [])
    ≡ (2 ∷ 2 ∷ 2 ∷ []) ∷ (1 ∷ 2 ∷ 1 ∷ []) ∷ (0 ∷ 2 ∷ 0 ∷ []) ∷ (1 ∷ 3 ∷ 1 ∷ []) ∷ (1 ∷ 2 ∷ 1 ∷ []) ∷ (0 ∷ 2 ∷ 0 ∷ []) ∷ []
unfolding row before context pair places occurs fresh ahead counter verdict own guess scored standing event events hits stretch longest
rows = refl

-- two levels, of which the last has 8 pairs: where only the first 4 of them are counted, one prediction less is right
capped : row 2 4 (1 ∷ 1 ∷ 0 ∷ 1 ∷ 1 ∷ 0 ∷ 0 ∷ 0 ∷ 0 ∷ []) ≡ 1 ∷ 7 ∷ 1 ∷ []
unfolding row before context pair places occurs fresh ahead counter verdict own guess scored standing event events hits stretch longest
capped = refl

uncapped : row 2 8 (1 ∷ 1 ∷ 0 ∷ 1 ∷ 1 ∷ 0 ∷ 0 ∷ 0 ∷ 0 ∷ []) ≡ 2 ∷ 7 ∷ 1 ∷ []
unfolding row before context pair places occurs fresh ahead counter verdict own guess scored standing event events hits stretch longest
uncapped = refl
