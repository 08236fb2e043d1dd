-- Numbers and comparisons of doubles as prediction.rs has them. Definitions only.
use Rattle.std.specs.Prelude.{ℕ, Bool, false, cond, ◌&&◌, negsuc, Float}
use Rattle.std.specs.Float.{fin, binary64}
use Rattle.std.specs.Float.Ieee.{round, lt, le}
use Rattle.rounding.specs.Doubles.{one}

-- f64::EPSILON, 2^-52
abbrev pub epsilon : Float
epsilon = fin false 1 (negsuc 51)

-- the double nearest to a / b
abbrev pub decimal : ℕ → ℕ → Float
decimal a b = round binary64 false a b

-- z = 2.575829303548901
unfoldable pub z995 : Float
z995 = decimal 2575829303548901 1000000000000000

-- `x.min(1.0)`: a NaN gives 1
abbrev pub at_most_one : Float → Float
at_most_one x = cond (lt x one) x one

-- `a.max(b)` where a is a number: a NaN b gives a
abbrev pub larger : Float → Float → Float
larger a b = cond (lt a b) b a

-- in the closed and the open interval bounded by a and b, "in either order"
abbrev pub in_closed : Float → Float → Float → Bool
in_closed x a b = cond (lt b a) (le b x && le x a) (le a x && le x b)

abbrev pub in_open : Float → Float → Float → Bool
in_open x a b = cond (lt b a) (lt b x && lt x a) (lt a x && lt x b)
