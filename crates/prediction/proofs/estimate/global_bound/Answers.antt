-- `prediction::estimate::global_bound` meets its contract. With p_global above 0 it is the upper bound, and else that of a zero count. Assumes nothing.
use lib.Ieee.{of_bits}
use Rattle.prediction.specs.Estimate.{prime_of}
use Rattle.prediction.proofs.estimate.global_bound.Goals as goal

pub upper_bound-requires : goal.upper_bound-requires
unfolding of_bits
upper_bound-requires c = (c.if-p_global.true, c.requires)

pub returns-then-p_global : goal.returns-then-p_global
unfolding prime_of of_bits
returns-then-p_global c = simp c.if-p_global.true c.upper_bound.ensures

pub returns : goal.returns
unfolding prime_of of_bits
returns c = simp c.if-p_global.false c.zero_count_bound.ensures
