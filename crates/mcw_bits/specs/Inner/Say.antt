-- What the windows say of a place, as the code holds it. Definitions only.
use Rattle.std.specs.Prelude.{◌≡◌, cond, List, [], ◌∷◌, ℕ, ◌≤◌, ◌<◌, leb, length, get_or}
use Rattle.race.specs.Inner.Held.{silence}
use Rattle.mcw_bits.specs.Inner.Ones.{majority_of}
use Rattle.mcw_bits.specs.Mcw.{size}
use Rattle.mcw_bits.specs.declared.Four.{Four}

-- the commonest bits of the first m windows, by the ones in each
pub record Votes (ones : List ℕ) (m : ℕ) (votes : List ℕ) : Type 0 where
  pub full : length votes ≡ 4
  pub each : (j : ℕ) → j < m → get_or votes j 0 ≡ majority_of (get_or ones j 0) (size j)

-- those of the first m windows that do not take part at place i have become silent
pub record Hushed (votes : List ℕ) (i m : ℕ) (says : List ℕ) : Type 0 where
  pub full : length says ≡ 4
  pub past : (j : ℕ) → j < m → get_or says j 0 ≡ cond (leb (size j) i) (get_or votes j 0) silence
  pub left : (j : ℕ) → m ≤ j → get_or says j 0 ≡ get_or votes j 0

-- a window of size w with the commonest symbol v, at place i
abbrev pub say_of : ℕ → ℕ → ℕ → ℕ
say_of v i w = cond (leb w i) v silence

-- all four, by the ones in each
pub record Sayings (ones : List ℕ) (i : ℕ) (says : List ℕ) : Type 0 where
  pub full : length says ≡ 4
  pub each : (j : ℕ) → j < 4 → get_or says j 0 ≡ say_of (majority_of (get_or ones j 0) (size j)) i (size j)

-- and by their commonest symbols
abbrev pub sayings : Four → ℕ → List ℕ
sayings f i =
    say_of f.first i (size 0) ∷ say_of f.second i (size 1) ∷ say_of f.third i (size 2) ∷ say_of f.fourth i (size 3) ∷ []

-- four symbols
pub record Symbols (f : Four) : Type 0 where
  pub first_is : f.first < 256
  pub second_is : f.second < 256
  pub third_is : f.third < 256
  pub fourth_is : f.fourth < 256
