-- The min-entropy -log2 p of a probability p from 1/256 to 1, in whole units of 2 ^ -24 bit, by arithmetic on doubles alone. Definitions only.
-- p is doubled until it is 1 at least, j times; the log2 of what that gives, from 1 to 2, has a binary digit for each of 24 squarings. Two units are
-- taken off, since the squarings round,
-- unless p is a power of two, where the figure is exact. What the figure says of p is in DemandThree, and in the laws of proofs/.
use Rattle.std.specs.Prelude.{ℕ, zero, suc, ◌+◌, ◌-◌, ◌*◌, ◌^◌, cond, eqb, Float}
use Rattle.std.specs.Float.{binary64}
use Rattle.std.specs.Float.Ieee.{mul, round, lt, le, eq}
use Rattle.rounding.specs.Doubles.{half, one, two}

-- "a whole multiple of 2^-24": how many units a bit has. It is shut, so that no proof computes a power as large as b ^ units.
unfoldable pub units : ℕ
units = 2 ^ 24

-- ---- the whole bits: p doubled
unfoldable pub doubled_times : ℕ → Float → Float
doubled_times zero p = p
doubled_times (suc i) p = mul binary64 (doubled_times i p) two

-- how often x is doubled until it is 1 at least, n times at most
unfoldable pub doublings : ℕ → Float → ℕ
doublings zero x = 0
doublings (suc n) x = cond (lt x one) (suc (doublings n (mul binary64 x two))) 0

-- 8 times at most, since p is 1/256 at least
abbrev pub whole_bits : Float → ℕ
whole_bits p = doublings 8 p

-- p / 2 ^ -whole_bits, from 1 to below 2
abbrev pub leading : Float → Float
leading p = doubled_times (whole_bits p) p

-- ---- log2 of an x from 1 to 2: its square, halved if it is 2 at least, and the digit that says so
unfoldable pub squared_once : Float → Float
squared_once x = let s = mul binary64 x x in cond (le two s) (mul binary64 s half) s

unfoldable pub digit : Float → ℕ
digit x = cond (le two (mul binary64 x x)) 1 0

unfoldable pub squared_times : ℕ → Float → Float
squared_times zero x = x
squared_times (suc i) x = squared_once (squared_times i x)

-- the digits of i squarings, as a number
unfoldable pub log_digits : ℕ → Float → ℕ
log_digits zero x = 0
log_digits (suc i) x = log_digits i x * 2 + digit (squared_times i x)

-- ---- the figure in units; ℕ's difference is 0 where there is less than is taken off
unfoldable pub entropy_units : Float → ℕ
entropy_units p = cond (eq (leading p) one) (whole_bits p * units) (whole_bits p * units - (log_digits 24 (leading p) + 2))

-- m units as a double, m / 2 ^ 24: "any zero entropy has that sign", that of negative zero
unfoldable pub bits_of : ℕ → Float
bits_of m = round binary64 (eqb m 0) m units

unfoldable pub entropy_of : Float → Float
entropy_of p = bits_of (entropy_units p)
