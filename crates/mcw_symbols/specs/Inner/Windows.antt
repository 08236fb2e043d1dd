-- What the code counts in the four windows. Definitions only.
use Rattle.std.specs.Prelude.{◌≡◌, cond, List, ℕ, ◌+◌, ◌-◌, ◌*◌, ◌≤◌, ◌<◌, leb, length, get_or, set}
use Rattle.lanes.specs.Inner.Lanes.{lane}
use Rattle.mcw_bits.specs.Inner.Counts.{before}
use Rattle.mcw_bits.specs.Mcw.{size}
use Rattle.mcw_symbols.specs.Inner.Samples.{last}
use Rattle.mcw_symbols.specs.Inner.Search.{most}

-- where each window begins before place i
abbrev pub starts : ℕ → (ℕ → ℕ)
starts i = λ j. i - size j

-- lane j of a symbol's word is twice how often it stands at the places lo j to hi - 1
pub record Counted (s : List ℕ) (lo : ℕ → ℕ) (hi : ℕ) (cnt : List ℕ) : Type 0 where
  pub full : length cnt ≡ 256
  pub at : (y : ℕ) → y < 256 → (j : ℕ) → j < 4 → lane (get_or cnt y 0) j + 2 * before s y (lo j) ≡ 2 * before s y hi

-- each symbol's latest place before i
pub record Seen (s : List ℕ) (i : ℕ) (latest : List ℕ) : Type 0 where
  pub full : length latest ≡ 256
  pub at : (y : ℕ) → y < 256 → get_or latest y 0 ≡ last s y i

pub record Bytes (s : List ℕ) : Type 0 where
  pub below : (i : ℕ) → i < length s → get_or s i 0 < 256

-- the sample that leaves the window of w samples at place i; 256, which is none, while it grows
abbrev pub leaver : List ℕ → ℕ → ℕ → ℕ
leaver s i w = cond (leb w i) (get_or s (i - w) 0) 256

-- one d less in the lane of the unit
abbrev pub less_one : List ℕ → ℕ → ℕ → List ℕ
less_one cnt d unit = set cnt d (get_or cnt d 0 - 2 * unit)

-- what is counted once it has left
abbrev pub left_at : List ℕ → List ℕ → ℕ → ℕ → ℕ → List ℕ
left_at cnt s i w unit = cond (leb w i) (less_one cnt (get_or s (i - w) 0) unit) cnt

pub record Leavable (cnt s : List ℕ) (i w unit : ℕ) : Type 0 where
  pub small_unit : unit ≤ 281474976710656
  pub full : length cnt ≡ 256
  pub inside : w ≤ i → i - w < length s
  pub small : w ≤ i → get_or s (i - w) 0 < 256
  pub has : w ≤ i → 2 * unit ≤ get_or cnt (get_or s (i - w) 0) 0

pub record Leaves (cnt s : List ℕ) (i w unit : ℕ) (cnt' : List ℕ) (gone : ℕ) : Type 0 where
  pub left_is : cnt' ≡ left_at cnt s i w unit
  pub gone_is : gone ≡ leaver s i w * unit

-- what leaves each window
pub record Gone (s : List ℕ) (i gone : ℕ) : Type 0 where
  pub each : (j : ℕ) → j < 4 → lane gone j ≡ leaver s i (size j)

-- 1 in each lane
abbrev pub ones : ℕ
ones = 281479271743489

-- a count in each lane, doubled, with room for more
pub record Roomy (n : ℕ) : Type 0 where
  pub each : (j : ℕ) → j < 4 → lane n j ≤ most + 2

-- one x more in each lane
abbrev pub one_more : List ℕ → ℕ → List ℕ
one_more cnt x = set cnt x (get_or cnt x 0 + 2 * ones)

pub record Enterable (cnt latest : List ℕ) (x i : ℕ) : Type 0 where
  pub symbol : x < 256
  pub soon : i < 4294967295
  pub cnt_full : length cnt ≡ 256
  pub latest_full : length latest ≡ 256
  pub room : (j : ℕ) → j < 4 → lane (get_or cnt x 0) j ≤ most

pub record Enters (cnt latest : List ℕ) (x i : ℕ) (cnt' latest' : List ℕ) (key : ℕ) : Type 0 where
  pub cnt_is : cnt' ≡ one_more cnt x
  pub latest_is : latest' ≡ set latest x (i + 1)
  pub key_is : key ≡ get_or cnt x 0 + 2 * ones + ones
