-- The definitions at small values. Assumes nothing.
use mathlib.Core.Path.{◌≡◌, refl}
use mathlib.Core.List.{[], ◌∷◌}
use Prim.Native.Nat.{ℕ}
use Rattle.verdicts.specs.Inner.Deficits.{last_of, some_of, gain, successor}
use Rattle.verdicts.specs.Inner.Planes.{bit_at, low_at, deficit_at, signs}

-- four sub-predictors, the first and the second with no deficit, the third behind by one, and the fourth by 130 = 2 + 64 * 2
abbrev behind : ℕ → ℕ
behind = deficit_at (4 ∷ 8 ∷ 0 ∷ 0 ∷ 0 ∷ 0 ∷ []) (0 ∷ 0 ∷ 0 ∷ 2 ∷ [])

third : behind 2 ≡ 1
unfolding low_at
third = refl

fourth : behind 3 ≡ 130
unfolding low_at
fourth = refl

far : signs (0 ∷ 0 ∷ 0 ∷ 2 ∷ []) ≡ 8
unfolding signs
far = refl

-- all are right: the later of the two leaders wins, and the largest score grows
tie_to_the_later : successor (bit_at 15) behind 0 4 ≡ 1
unfolding last_of some_of low_at
tie_to_the_later = refl

grows : gain (bit_at 15) behind 4 ≡ 1
unfolding some_of low_at
grows = refl

-- no leader is right: the third has as many points as they, and wins
catches_up : successor (bit_at 12) behind 0 4 ≡ 2
unfolding last_of some_of low_at
catches_up = refl

stays : gain (bit_at 12) behind 4 ≡ 0
unfolding some_of low_at
stays = refl

-- the fourth alone is right, and stays too far behind
too_far : successor (bit_at 8) behind 0 4 ≡ 0
unfolding last_of some_of low_at
too_far = refl
