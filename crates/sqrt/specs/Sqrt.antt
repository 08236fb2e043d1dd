-- The square root of a float, rounded to the nearest value of the format, by exact squares. `CorrectRounding` of the proofs shows that it is the
-- nearest. Definitions only.
use Rattle.std.specs.Prelude.{ℕ, zero, suc, ◌+◌, ◌-◌, ◌*◌, ◌/◌, ◌^◌, true, false, Float}
use Rattle.std.specs.Float.{nan, inf, fin, Format}
use Rattle.std.specs.Float.Ieee.{prec, low, up, down, size, units}
use Rattle.sqrt.specs.Root.{root}

-- The value of the format f that is nearest to √n of its smallest values. As in `Ieee.round`, of the root's whole part the format keeps the `prec`
-- leading digits and drops k,
-- so the result is q * 2 ^ k for the whole number q that is nearest to √n / 2 ^ k: q is the whole part of √n / 2 ^ k + 1 / 2, which is half of ⌊√(4 *
-- n / 4 ^ k)⌋ + 1.
unfoldable pub rounded : Format → ℕ → Float
rounded f n = let k = size (root n) - prec f in units f false ((root (4 * n / 4 ^ k) + 1) / 2) k

-- "Negative or not a number: not a number; negative zero and infinity: itself."
-- Counted in the format's smallest values, 2 ^ -low each, x is n = m * 2 ^ e * 2 ^ low of them, and √x is √(n * 2 ^ low) of them.
unfoldable pub sqrt_of : Format → Float → Float
unfolding rounded
sqrt_of f nan = nan
sqrt_of f (inf true) = nan
sqrt_of f (inf false) = inf false
sqrt_of f (fin s zero e) = fin s zero e
sqrt_of f (fin true (suc m) e) = nan
sqrt_of f (fin false (suc m) e) = rounded f (suc m * up e * 2 ^ low f / down e * 2 ^ low f)
