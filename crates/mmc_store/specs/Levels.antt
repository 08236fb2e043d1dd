-- What each level of MultiMMC has counted before a place, and what it says of it. Definitions only.
use Rattle.std.specs.Prelude.{ℕ, zero, suc, ◌+◌, Bool, true, cond, ◌&&◌, List, [], ◌∷◌, get_or, eqb, ltb}
use Rattle.race.specs.Race.{Guess, silent, says}
use Rattle.mmc_store.specs.Counts.{present, count, predicted}

-- the places that a level has counted, the newest first, and the entries that it has made
pub record Level : Type 0 where
  pub places : List ℕ
  pub entries : ℕ

abbrev pub nothing : Level
nothing = record { places = []; entries = 0 }

-- place i is counted, with n entries more
abbrev pub counting : Level → ℕ → ℕ → Level
counting v i n = record { places = i ∷ v.places; entries = v.entries + n }

-- where level L and every shorter one have the context of i: the place is counted if its pair was counted before, or, as a new entry, below the cap
unfoldable pub when_found : ℕ → List ℕ → ℕ → Level → ℕ → Level
when_found cap s L v i =
    cond (eqb (count s L v.places i (get_or s i 0)) 0) (cond (ltb v.entries cap) (counting v i 1) v) (counting v i 0)

-- where one of them has not: "below the cap it adds one to the pair and one to the entry number without asking whether the pair is new; at the
-- cap nothing is counted"
unfoldable pub when_absent : ℕ → Level → ℕ → Level
when_absent cap v i = cond (ltb v.entries cap) (counting v i 1) v

-- each level from 1 to L has the context of i, where `at K` is level K
unfoldable pub found : List ℕ → (ℕ → Level) → ℕ → ℕ → Bool
found s at i zero = true
found s at i (suc L) = found s at i L && present s (suc L) (at (suc L)).places i

-- level L before place i. Its first place is its own length: nothing was counted yet, so that place is counted and is one entry
unfoldable pub level : ℕ → List ℕ → ℕ → ℕ → Level
level cap s zero L = nothing
level cap s (suc i) L =
    cond (ltb i L) nothing
    (cond (found s (λ K. level cap s i K) i L) (when_found cap s L (level cap s i L) i) (when_absent cap (level cap s i L) i))

-- what sub-predictor d, the level of prefix length d + 1, says of place i
unfoldable pub guess : ℕ → List ℕ → ℕ → ℕ → Guess
guess cap s i d =
    cond (found s (level cap s i) i (suc d)) (says (predicted s (suc d) (level cap s i (suc d)).places i)) silent
