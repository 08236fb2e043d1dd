-- Numbers as text, in ASCII. Definitions only.
use Rattle.std.specs.Prelude.{ℕ, zero, suc, ◌+◌, ◌/◌, ◌%◌, cond, List, [], ◌∷◌, ◌++◌, ltb, Float}
use Rattle.std.specs.Float.{binary64}
use Rattle.std.specs.Float.Ieee.{to_bits}

-- a digit below 16: `0` to `9`, then `A` to `F`
unfoldable pub glyph : ℕ → ℕ
glyph d = cond (ltb d 10) (48 + d) (55 + d)

-- the last k digits of n in base b, the most significant first
unfoldable pub digits : ℕ → ℕ → ℕ → List ℕ
digits b zero n = []
digits b (suc k) n = digits b k (n / b) ++ (glyph (n % b) ∷ [])

-- how many decimal digits n has, if at most d + 1: one below ten, else one more than its tenth part
unfoldable pub places_in : ℕ → ℕ → ℕ
places_in zero n = 1
places_in (suc d) n = cond (ltb n 10) 1 (suc (places_in d (n / 10)))

-- how many decimal digits n has
unfoldable pub places : ℕ → ℕ
unfolding places_in
places n = places_in n n

-- n in decimal, with no zeros in front
unfoldable pub decimal : ℕ → List ℕ
unfolding places digits
decimal n = digits 10 (places n) n

-- the bits of a double as 16 hex digits
unfoldable pub pattern : Float → List ℕ
unfolding digits
pattern x = digits 16 16 (to_bits binary64 x)
