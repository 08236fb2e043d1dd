-- What the small functions of the code do, and what the code holds before, within and after a place. Definitions only.
use Rattle.std.specs.Prelude.{ℕ, zero, suc, ◌+◌, ◌*◌, ◌-◌, ◌^◌, ◌<◌, ◌≤◌, min, ◌≡◌, cond, List, ◌++◌, get_or, length, drop, ltb, eqb}
use Rattle.race.specs.Race.{judge}
use Rattle.capture.specs.Bits.{one}
use Rattle.verdicts.specs.declared.Masks.{Masks}
use Rattle.verdicts.specs.Inner.Told.{Told}
use Rattle.mmc_bits.specs.Levels.{levels, cap}
use Rattle.mmc_bits.specs.Counters.{context, counter, places, fresh}
use Rattle.mmc_bits.specs.Guesses.{guess}
use Rattle.mmc_bits.specs.Space.{span, size}

-- each element is a bit
abbrev pub Bits : List ℕ → Type 0
Bits b = (j : ℕ) → get_or b j 0 < 2

-- how many distinct pairs of level L occurred before place i
unfoldable pub distinct : ℕ → List ℕ → ℕ → ℕ
distinct L b i = places (fresh L b) L i

-- a counter is below this
abbrev pub counter_end : ℕ
counter_end = 4294967296

-- 1 where the zeros are more than the ones, "the strictly larger count": there a level that speaks says 0
unfoldable pub lean : ℕ → ℕ → ℕ
lean zeros ones = one (ltb ones zeros)

-- that of level L at place i
unfoldable pub leaning : ℕ → ℕ → List ℕ → ℕ → ℕ
leaning cap L b i = lean (counter cap L b (context L b i * 2) i) (counter cap L b (context L b i * 2 + 1) i)

-- those of the levels 1 to n as the digits of a number, the shortest level's lowest
unfoldable pub leanings : ℕ → ℕ → List ℕ → ℕ → ℕ
leanings cap zero b i = 0
leanings cap (suc l) b i = leaning cap (suc l) b i * 2 ^ l + leanings cap l b i

-- the counts that level L's context has at place i; a level whose context has none is silent
unfoldable pub followed : ℕ → ℕ → List ℕ → ℕ → ℕ
followed cap L b i = counter cap L b (context L b i * 2) i + counter cap L b (context L b i * 2 + 1) i

-- a counter that read m, one occurrence later, where n pairs have counters
unfoldable pub bumped : ℕ → ℕ → ℕ → ℕ
bumped cap m n = cond (eqb m 0) (cond (ltb n cap) 1 0) (m + 1)

-- the number of pairs that have counters, then
unfoldable pub kept : ℕ → ℕ → ℕ → ℕ
kept cap m n = cond (eqb m 0) (cond (ltb n cap) (n + 1) n) n

-- within a place: of n levels, those to l are past it and the others before it
unfoldable pub mixed : ℕ → ℕ → ℕ → List ℕ → ℕ → List ℕ → List ℕ
mixed cap n l b i rest = span cap 1 l b (suc i) ++ (span cap (suc l) (n - l) b i ++ rest)

-- place i of a history b: the bit there, and the last bits before it as one number
pub record Stands (b : List ℕ) (i recent bit : ℕ) : Type 0 where
  pub bits : Bits b
  pub inside : i < length b
  pub short : length b < counter_end
  pub bit_is : bit ≡ get_or b i 0
  pub recent_is : recent ≡ context levels b i

-- the counters before a place that is long enough for the levels to `top`
pub record Entered (b : List ℕ) (i recent bit top : ℕ) (counters : List ℕ) : Type 0 where
  pub stands : Stands b i recent bit
  pub taking : top ≤ i
  pub counted : counters ≡ span cap 1 levels b i ++ drop (size levels) counters

-- of the levels 1 to `top`, those to `longest` have a count, and the others none: the mask of those that have
pub record Speaking (b : List ℕ) (i top mask : ℕ) : Type 0 where
  pub longest : ℕ
  pub within : longest ≤ top
  pub mask_is : mask ≡ 2 ^ longest - 1
  pub speaks : (j : ℕ) → j < longest → 0 < followed cap (suc j) b i
  pub quiet : (j : ℕ) → longest ≤ j → j < top → followed cap (suc j) b i ≡ 0

-- the levels to l have passed it; `zeros` is where they have more zeros
pub record Passed (b : List ℕ) (i l : ℕ) (counters₀ counters : List ℕ) (zeros : ℕ) : Type 0 where
  pub zeros_are : zeros ≡ leanings cap l b i
  pub counted : counters ≡ mixed cap levels l b i (drop (size levels) counters₀)

-- only the last level is before it, of whose pairs `stored` have counters
pub record Last (b : List ℕ) (i recent bit stored : ℕ) (counters : List ℕ) : Type 0 where
  pub stands : Stands b i recent bit
  pub long : levels ≤ i
  pub stored_is : stored ≡ min (distinct levels b i) cap
  pub counted : counters ≡ mixed cap levels (levels - 1) b i (drop (size levels) counters)

-- and has passed it
pub record Ended (b : List ℕ) (i zero' stored : ℕ) (counters₀ counters : List ℕ) : Type 0 where
  pub zero_is : zero' ≡ leaning cap levels b i
  pub stored_is : stored ≡ min (distinct levels b (suc i)) cap
  pub counted : counters ≡ span cap 1 levels b (suc i) ++ drop (size levels) counters₀

-- all that the code holds before a place
pub record Before (b : List ℕ) (i recent bit stored : ℕ) (counters : List ℕ) : Type 0 where
  pub stands : Stands b i recent bit
  pub counted : counters ≡ span cap 1 levels b i ++ drop (size levels) counters
  pub stored_is : stored ≡ min (distinct levels b i) cap

-- and after it
pub record After (b : List ℕ) (i stored : ℕ) (masks : Masks) (counters₀ counters : List ℕ) : Type 0 where
  pub stored_is : stored ≡ min (distinct levels b (suc i)) cap
  pub counted : counters ≡ span cap 1 levels b (suc i) ++ drop (size levels) counters₀
  pub told : Told levels (λ j. judge (guess cap b i j) (get_or b i 0)) masks
