-- What the table of 256 numbers holds while the symbols are seen one after the other. Definitions only.
use Rattle.std.specs.Prelude.{cond, List, ℕ, ◌+◌, eqb, get_or, set}
use Rattle.alphabet.specs.Alphabet.{has, first_sight}

-- a value's number by first sight in s; 256 where it was not seen
unfoldable pub sight_in : List ℕ → ℕ → ℕ
sight_in s v = cond (has v s) (first_sight s v) 256

-- the table, and the next number, after value x is looked up
abbrev pub entered : List ℕ → ℕ → ℕ → List ℕ
entered numbers x next = cond (eqb (get_or numbers x 0) 256) (set numbers x next) numbers

abbrev pub next_after : List ℕ → ℕ → ℕ → ℕ
next_after numbers x next = cond (eqb (get_or numbers x 0) 256) (next + 1) next
