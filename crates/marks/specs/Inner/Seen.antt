-- Which of the 256 values were seen, and how a table of them grows. Definitions only.
use Rattle.std.specs.Prelude.{◌≡◌, Bool, false, ◌||◌, List, ℕ, ◌<◌, length, get_or}
use Rattle.alphabet.specs.Alphabet.{has}

-- the table says of each value whether it stands in s
pub record Seen (s : List ℕ) (seen : List Bool) : Type 0 where
  pub full : length seen ≡ 256
  pub at : (v : ℕ) → v < 256 → get_or seen v false ≡ has v s

-- the values of s were seen beside those before
pub record Sees (before : List Bool) (s : List ℕ) (after : List Bool) : Type 0 where
  pub full : length after ≡ length before
  pub at : (v : ℕ) → v < length before → get_or after v false ≡ (get_or before v false || has v s)
