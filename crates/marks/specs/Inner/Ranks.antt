-- What a ranking keeps. Definitions only.
use Rattle.std.specs.Prelude.{◌≡◌, ℕ, List}
use Rattle.alphabet.specs.Alphabet.{distinct, rising}
use Rattle.alphabet.specs.Inner.Numbering.{Holds}

-- the table gives each value how many distinct values of s are smaller, and the size says how many there are
pub record Ranks (s numbers : List ℕ) (size : ℕ) : Type 0 where
  pub table : Holds (rising s) numbers
  pub count : size ≡ distinct s
