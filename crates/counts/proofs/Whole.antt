-- The limit of the counts, as far as proofs may know it. Assumes nothing.
use Prim.Native.Nat.{◌<◌}
use native.Mathlib.Omega.{arith}
use Rattle.counts.specs.Counts.{count_limit}

-- what the rest of the house may know of the limit, without its number
pub limit_small : count_limit < 4294967295
unfolding count_limit
limit_small = omega arith
