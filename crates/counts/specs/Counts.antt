-- Which counts cannot be, and which probabilities are out of range: numbers 4 and 5. Definitions only.
use Rattle.std.specs.Prelude.{ℕ, Bool, not, ◌&&◌, ◌||◌, ltb, eqb, Float}
use Rattle.std.specs.Float.Ieee.{lt, le}
use Rattle.rounding.specs.Doubles.{least, one}

-- "N > 134,217,728" cannot be
unfoldable pub count_limit : ℕ
count_limit = 134217728

-- "C > N, longest run > C, C > 0 with run 0, k outside 1..256, N > 134,217,728"
unfoldable pub impossible_counts : ℕ → ℕ → ℕ → ℕ → Bool
impossible_counts c n run k = ltb n c || (ltb c run || ((ltb 0 c && eqb run 0) || (ltb k 1 || (ltb 256 k || ltb count_limit n))))

-- of the function and the solver: "N at most 134,217,728, run at most N"
unfoldable pub impossible_run : ℕ → ℕ → Bool
impossible_run run n = ltb count_limit n || ltb n run

-- they "take 1/256 up to but not 1"; a NaN is outside
unfoldable pub outside : Float → Bool
outside p = not (le least p && lt p one)
