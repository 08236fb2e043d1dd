-- A whole power of a double: "Whole-number powers come from halving the exponent." Definitions only.
use Rattle.std.specs.Prelude.{ℕ, zero, suc, ◌/◌, ◌%◌, cond, false, pos, eqb, Float}
use Rattle.std.specs.Float.{fin, binary64}
use Rattle.std.specs.Float.Ieee.{mul, size}

-- 1.0
abbrev pub one : Float
one = fin false 1 (pos 0)

-- y * x ^ n for an n of at most d binary digits. x ^ n is the power of the square of x to half of n, and that times x where n is odd; each product is rounded.
-- The exponent loses a digit each time it is halved.
unfoldable pub times_in : ℕ → Float → Float → ℕ → Float
times_in zero y x n = y
times_in (suc d) y x n = times_in d (cond (eqb (n % 2) 1) (mul binary64 y x) y) (mul binary64 x x) (n / 2)

unfoldable pub times_power : Float → Float → ℕ → Float
unfolding times_in
times_power y x n = times_in (size n) y x n

-- x ^ n, and 1.0 for n = 0
unfoldable pub power_of : Float → ℕ → Float
unfolding times_power
power_of x n = times_power one x n
