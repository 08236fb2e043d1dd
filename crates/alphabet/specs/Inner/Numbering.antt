-- What the translators read, and what their table of 256 numbers and their output hold on the way. Definitions only.
use Rattle.std.specs.Prelude.{◌≡◌, List, ◌++◌, map, ℕ, ◌<◌, length, get_or, take, drop}

-- x is the symbol at place i
pub record SymbolAt (s : List ℕ) (i x : ℕ) : Type 0 where
  pub inside : i < length s
  pub here : x ≡ get_or s i 0
  pub small : x < 256

-- the table gives each value v what f gives it
pub record Holds (f : ℕ → ℕ) (numbers : List ℕ) : Type 0 where
  pub full : length numbers ≡ 256
  pub at : (v : ℕ) → v < 256 → get_or numbers v 0 ≡ f v

-- the output when the first i symbols are translated
abbrev pub partly : (ℕ → ℕ) → List ℕ → ℕ → List ℕ → List ℕ
partly f s i out = map f (take i s) ++ drop i out
