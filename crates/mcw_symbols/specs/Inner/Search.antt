-- What the search of a window needs and finds. Definitions only.
use Rattle.std.specs.Prelude.{◌≡◌, List, ℕ, ◌+◌, ◌*◌, ◌^◌, ◌≤◌, ◌<◌, length, get_or}
use Rattle.lanes.specs.Inner.Lanes.{lane}
use Rattle.mcw_symbols.specs.Inner.Candidate.{Foremost}
use Rattle.mcw_symbols.specs.declared.Candidates.{Candidates}

-- what the code holds of each symbol: its count in window j, doubled, and its latest place
abbrev pub held_count : List ℕ → ℕ → (ℕ → ℕ)
held_count cnt j = λ y. lane (get_or cnt y 0) j

abbrev pub held_place : List ℕ → (ℕ → ℕ)
held_place latest = λ y. get_or latest y 0

-- twice the size of the longest window, which no count is above
abbrev pub most : ℕ
most = 8190

pub record Searchable (cnt latest : List ℕ) (k x : ℕ) : Type 0 where
  pub few : k ≤ 256
  pub within : x < k
  pub cnt_full : length cnt ≡ 256
  pub latest_full : length latest ≡ 256
  pub room : (y : ℕ) → y < 256 → (j : ℕ) → j < 4 → lane (get_or cnt y 0) j ≤ most

-- b is the favourite of window j
pub record Favourite (cnt latest : List ℕ) (k j b : ℕ) : Type 0 where
  pub within : b < k
  pub foremost : Foremost (held_count cnt j) (held_place latest) k b

-- of the window whose lane the mask has
pub record Finds (cnt latest : List ℕ) (k mask b : ℕ) : Type 0 where
  pub found : (q : ℕ) → mask ≡ 65535 * 2 ^ (16 * q) → Favourite cnt latest k q b
  pub within : b < k

-- window j has its favourite for its candidate
pub record Settled (cnt latest : List ℕ) (k : ℕ) (r : Candidates) (j : ℕ) : Type 0 where
  pub favourite_is : Favourite cnt latest k j (lane r.symbols j)
  pub key_is : lane r.keys j ≡ lane (get_or cnt (lane r.symbols j) 0) j + 1
  pub bound_is : lane r.bounds j ≡ lane (get_or cnt (lane r.symbols j) 0) j

-- window j keeps its candidate
pub record Unmoved (c r : Candidates) (j : ℕ) : Type 0 where
  pub symbol_is : lane r.symbols j ≡ lane c.symbols j
  pub key_is : lane r.keys j ≡ lane c.keys j
  pub bound_is : lane r.bounds j ≡ lane c.bounds j

-- one window is searched
pub record Sets (cnt latest : List ℕ) (k : ℕ) (c : Candidates) (at : ℕ) (r : Candidates) : Type 0 where
  pub settled : (q : ℕ) → at ≡ 16 * q → Settled cnt latest k r q
  pub others : (q : ℕ) → at ≡ 16 * q → (j : ℕ) → j < 4 → (j ≡ q → ⊥) → Unmoved c r j

-- those that are marked
pub record Searched (cnt latest : List ℕ) (k need : ℕ) (c r : Candidates) : Type 0 where
  pub settled : (j : ℕ) → j < 4 → (lane need j ≡ 0 → ⊥) → Settled cnt latest k r j
  pub others : (j : ℕ) → j < 4 → lane need j ≡ 0 → Unmoved c r j
