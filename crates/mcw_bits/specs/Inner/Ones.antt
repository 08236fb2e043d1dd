-- What the bitstring track keeps: the number of ones in each window, and the latest bits. Definitions only.
use Rattle.std.specs.Prelude.{◌≡◌, cond, List, ℕ, ◌+◌, ◌-◌, ◌%◌, ◌≤◌, ◌<◌, ltb, length, get_or}
use Rattle.mcw_bits.specs.Mcw.{size}
use Rattle.mcw_bits.specs.Inner.Counts.{before}

-- c ones stand in the window of w bits before place i
pub record Ones (s : List ℕ) (i w c : ℕ) : Type 0 where
  pub count : c + before s 1 (i - w) ≡ before s 1 i

-- `ones` has those of each window
pub record AllOnes (s : List ℕ) (i : ℕ) (ones : List ℕ) : Type 0 where
  pub full : length ones ≡ 4
  pub each : (j : ℕ) → j < 4 → Ones s i (size j) (get_or ones j 0)

-- the latest 4,096 bits before place i, bit q at q % 4096; 0 where none was yet
pub record Ring (s : List ℕ) (i : ℕ) (ring : List ℕ) : Type 0 where
  pub full : length ring ≡ 4096
  pub past : (q : ℕ) → q < i → i ≤ q + 4096 → get_or ring (q % 4096) 0 ≡ get_or s q 0
  pub blank : (q : ℕ) → i ≤ q → q < 4096 → get_or ring q 0 ≡ 0

-- the bit that leaves a window of w bits as place i comes
abbrev pub past_in : List ℕ → ℕ → ℕ → ℕ
past_in ring i w = get_or ring ((i + 4096 - w) % 4096) 0

-- the windows before the m-th have rolled
pub record Rolled (ones ring : List ℕ) (i x m : ℕ) (next : List ℕ) : Type 0 where
  pub full : length next ≡ 4
  pub past : (j : ℕ) → j < m → get_or next j 0 ≡ get_or ones j 0 + x - past_in ring i (size j)
  pub left : (j : ℕ) → m ≤ j → get_or next j 0 ≡ get_or ones j 0

-- what one window needs to roll
pub record Rolls (c : ℕ) (ring : List ℕ) (i w x : ℕ) : Type 0 where
  pub near : w ≤ 4096
  pub soon : i < 4611686018427387904
  pub small : c + x < 4611686018427387904
  pub has : past_in ring i w ≤ c + x

pub record AllRoll (ones ring : List ℕ) (i x : ℕ) : Type 0 where
  pub full : length ones ≡ 4
  pub each : (j : ℕ) → j < 4 → Rolls (get_or ones j 0) ring i (size j) x

-- the commonest bit of a window of size w with c ones
abbrev pub majority_of : ℕ → ℕ → ℕ
majority_of c w = cond (ltb w (c + c)) 1 0

-- numbers that can be doubled
pub record Small (ones : List ℕ) : Type 0 where
  pub full : length ones ≡ 4
  pub each : (j : ℕ) → j < 4 → get_or ones j 0 < 4611686018427387904
