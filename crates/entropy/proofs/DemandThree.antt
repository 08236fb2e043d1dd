-- Demand 3 of the letter, as a law of its own: for a probability p from 1/256 to 1, what `min_entropy` answers is a whole multiple of 2 ^ -24, and
-- the exact -log2 p lies within 2 ^ -22 of it.
-- It follows from the stronger one-sided laws: the figure is never above, and at most three units below. Assumes nothing.
use mathlib.Core.Path.{sym, subst}
use Prim.Native.Nat.{ℕ, ◌+◌, ◌^◌, ◌≤◌}
use native.Mathlib.Nat.{le_trans, le_of_eq, mul-one, mul-le-mul_left}
use native.Mathlib.Omega.{arith}
use lib.Pow.{pow_mono, pow_pos}
use lib.Ieee.{Float}
use lib.Ieee.Positive.{num, den}
use Rattle.entropy.specs.Entropy.{units, entropy_units, entropy_of}
use Rattle.entropy.specs.MinEntropy.{Probability, min_entropy_of}
use Rattle.entropy.specs.DemandThree.{AtMostBelow, DemandThree}
use Rattle.entropy.proofs.Cases.{in_range_value}
use Rattle.entropy.proofs.Bounds.{never_above, at_most_three_below}
use Rattle.entropy.proofs.EntropyRange.{entropy_value}

-- 2 ^ -22 is four units
pub at_most_four_below : (p : Float) → Probability p → AtMostBelow 4 (num p) (den p) (entropy_units p)
at_most_four_below p r = le_trans (at_most_three_below p r) (mul-le-mul_left (num p ^ units) (pow_mono (more (entropy_units p))))
  where
    more : (m : ℕ) → m + 3 ≤ m + 4
    more m = omega arith

pub demand_three_entropy : (p : Float) → Probability p → DemandThree p (entropy_of p)
demand_three_entropy p r = record {
  m = entropy_units p;
  multiple = entropy_value p r;
  not_over = le_trans (never_above p r) (le_trans (le_of_eq (sym (mul-one (den p ^ units)))) (mul-le-mul_left (den p ^ units) (pow_pos 4)));
  not_under = at_most_four_below p r;
}

pub demand_three : (p : Float) → Probability p → DemandThree p (min_entropy_of p).value
demand_three p r = subst (DemandThree p) (sym (in_range_value p r.from r.to)) (demand_three_entropy p r)
