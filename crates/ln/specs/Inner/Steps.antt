-- What the contract of a step cites. Definitions only.
use Rattle.std.specs.Prelude.{ℕ, suc, ◌*◌, ◌^◌, false, cond, ltb, Float}
use Rattle.std.specs.Float.{binary64}
use Rattle.std.specs.Float.Ieee.{minus, round, of_int}
use Rattle.rounding.specs.Doubles.{◌⊖◌, one}
use Rattle.ln.specs.Ln.{series}

-- The logarithm of q / 2 ^ 52 times 2 ^ place smallest doubles, for a q from 2 ^ 52 up and below 2 ^ 53. From √2 up, q / 2 ^ 52 gives a 2 to the exponent.
unfoldable pub ln_at : ℕ → ℕ → Float
unfolding series
ln_at q place =
    cond (ltb (q * q) (2 * 4 ^ 52)) (series (of_int binary64 (minus place 1074)) (round binary64 false q (2 ^ 52) ⊖ one))
    (series (of_int binary64 (minus (suc place) 1074)) (round binary64 false q (2 ^ 53) ⊖ one))
