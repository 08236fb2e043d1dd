-- What the windows' candidates tell of a symbol. Definitions only.
use Rattle.std.specs.Prelude.{◌≡◌, Bool, true, false, ◌&&◌, ◌||◌, not, List, ℕ, ◌<◌, eqb, leb}
use Rattle.lanes.specs.Inner.Lanes.{lane, marked, Low}
use Rattle.mcw_bits.specs.Mcw.{size}
use Rattle.mcw_symbols.specs.Inner.Search.{Searchable, Settled, Unmoved}
use Rattle.mcw_symbols.specs.declared.Candidates.{Candidates}
use Rattle.mcw_symbols.specs.declared.ask.Heard.{Heard}

-- the lanes leave room for marks
pub record LowAll (c : Candidates) : Type 0 where
  pub symbols_low : Low c.symbols
  pub keys_low : Low c.keys
  pub bounds-low : Low c.bounds

-- whether a window that takes part, t, must be searched before it is known if it says x, which it counts n times, doubled
abbrev pub needs : Candidates → ℕ → ℕ → ℕ → Bool → Bool
needs c x n j t = ((leb (lane c.keys j) (lane n j) || eqb (lane x j) (lane c.symbols j)) && leb (lane c.keys j) (lane c.bounds j)) && t

-- whether it says x for sure
abbrev pub says_surely : Candidates → ℕ → ℕ → Bool → Bool
says_surely c x j t = (eqb (lane x j) (lane c.symbols j) && not (leb (lane c.keys j) (lane c.bounds j))) && t

-- a window takes part from the place of its size on
abbrev pub part_at : ℕ → (ℕ → Bool)
part_at i = λ j. leb (size j) i

-- t says, window by window, which take part
abbrev pub Taking : ℕ → (ℕ → Bool) → Type 0
Taking taking t = (j : ℕ) → j < 4 → lane taking j ≡ marked (t j)

pub record Hears (c : Candidates) (x taking : ℕ) (h : Heard) : Type 0 where
  pub same_candidates : h.candidates ≡ c
  pub alike_is : (j : ℕ) → j < 4 → lane h.alike j ≡ marked (eqb (lane x j) (lane c.symbols j))
  pub right_is : (t : ℕ → Bool) → Taking taking t → (j : ℕ) → j < 4 → lane h.right j ≡ marked (says_surely c x j (t j))

pub record Askable (cnt latest : List ℕ) (k : ℕ) (c : Candidates) (x xs : ℕ) : Type 0 where
  pub searchable : Searchable cnt latest k x
  pub low : LowAll c
  pub xs_low : Low xs

-- the candidates after those windows were searched that must be, and what they tell
pub record Asks (cnt latest : List ℕ) (k : ℕ) (c : Candidates) (x n taking : ℕ) (h : Heard) : Type 0 where
  pub settled : (t : ℕ → Bool) → Taking taking t → (j : ℕ) → j < 4 → needs c x n j (t j) ≡ true → Settled cnt latest k h.candidates j
  pub others : (t : ℕ → Bool) → Taking taking t → (j : ℕ) → j < 4 → needs c x n j (t j) ≡ false → Unmoved c h.candidates j
  pub hears : Hears h.candidates x taking h
