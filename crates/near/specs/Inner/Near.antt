-- When two doubles count as the same. Definitions only.
use Rattle.std.specs.Prelude.{ℕ, ◌+◌, ◌-◌, ◌%◌, Bool, ◌&&◌, ◌||◌, cond, eqb, leb, Float}
use Rattle.std.specs.Float.{binary64}
use Rattle.std.specs.Float.Ieee.{le, of_bits, sub, to_bits}

-- the same bits, every NaN as one
unfoldable pub same : Float → ℕ → Bool
same x bits = eqb (to_bits binary64 x) (to_bits binary64 (of_bits binary64 bits))

-- at most a distance apart; a NaN is near nothing
unfoldable pub within : Float → Float → Float → Bool
within x y most = le (sub binary64 x y) most && le (sub binary64 y x) most

-- the pattern of an infinity or of a NaN
abbrev pub special : ℕ → Bool
special bits = leb 0x7ff0_0000_0000_0000 (bits % 0x8000_0000_0000_0000)

-- Patterns of one sign count the doubles between them. Infinities and NaNs are the same or not.
unfoldable pub few_units : ℕ → ℕ → ℕ → Bool
few_units a b most = cond (special a || special b) (eqb a b) (leb ((a - b) + (b - a)) most)
