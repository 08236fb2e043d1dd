-- `zero_count::part` meets its contract: m is a double, and the quotient by 2 ^ 52 is the fraction. Assumes nothing.
use Rattle.std.proofs.Common.{arith}
use lib.Ieee.{of_bits}
use Rattle.rounding.proofs.Exact.{whole_fits}
use Rattle.zero_count.proofs.Fractions.{part_quotient}
use Rattle.zero_count.proofs.part.Goals as goal

pub int_to_float-result : goal.int_to_float-result
int_to_float-result c = whole_fits _ (omega arith)

pub returns : goal.returns
unfolding of_bits
returns c = part_quotient c.args.m c.requires
