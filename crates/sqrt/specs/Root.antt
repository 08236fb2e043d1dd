-- The whole part of a square root: `root n` is the largest r with r * r ≤ n. `Roots` of the proofs shows that it is, and that no other
-- number is. Definitions only.
use Rattle.std.specs.Prelude.{ℕ, zero, suc, ◌+◌, ◌*◌, ◌/◌, cond, leb}
use Rattle.std.specs.Float.Ieee.{size}

-- One binary digit of the root for two of n, as by hand: the root of n / 4, doubled, and one more where the square of that is still at most n.
-- d says how many digits of the root to take, which is enough where n < 4 ^ d.
unfoldable pub root_in : ℕ → ℕ → ℕ
root_in zero n = 0
root_in (suc d) n = let r = 2 * root_in d (n / 4) in cond (leb ((r + 1) * (r + 1)) n) (r + 1) r

-- the largest r with r * r ≤ n
unfoldable pub root : ℕ → ℕ
unfolding root_in
root n = root_in (size n) n
