-- What a min-entropy figure of m units says of the probability a / b. There are no real numbers here, so it is said by powers: with N = 2 ^ 24 units to a bit,
-- m / N ≤ -log2 (a / b) is a ^ N * 2 ^ m ≤ b ^ N. Definitions only.
use Rattle.std.specs.Prelude.{ℕ, ◌+◌, ◌*◌, ◌^◌, ◌≤◌, eqb, Float}
use Rattle.std.specs.Float.Ieee.Exact.{HasValue}
use Rattle.std.specs.Float.Ieee.Positive.{num, den}
use Rattle.entropy.specs.Entropy.{units}

-- the figure is never above the exact value
abbrev pub NeverAbove : (a b m : ℕ) → Type 0
NeverAbove a b m = a ^ units * 2 ^ m ≤ b ^ units

-- and at most k units below it
abbrev pub AtMostBelow : (k a b m : ℕ) → Type 0
AtMostBelow k a b m = b ^ units ≤ a ^ units * 2 ^ (m + k)

-- "Take the largest probability p .. as the exact fraction its double is, from 1/256 to 1. The min-entropy we report is a whole multiple of 2^-24,
-- and -log2 of p, the exact value, lies within 2^-22 of it. You state this in powers of whole numbers." 2^-22 is four units.
pub record DemandThree (p reported : Float) : Type 0 where
  pub m : ℕ
  pub multiple : HasValue reported (eqb m 0) m units
  pub not_over : num p ^ units * 2 ^ m ≤ den p ^ units * 2 ^ 4
  pub not_under : den p ^ units ≤ num p ^ units * 2 ^ (m + 4)
