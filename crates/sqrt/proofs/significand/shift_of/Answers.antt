-- `sqrt::significand::shift_of` meets its contract. The zeros above the leading one and the digits from it on make the word's 64, and a significand has 53
-- of them. Assumes nothing.
use native.Mathlib.Omega.{arith}
use Rattle.sqrt.proofs.Shift.{zeros_and_size}
use Rattle.sqrt.proofs.significand.shift_of.Goals as goal

pub returns : goal.returns
returns c = omega (arith, zeros_and_size c.args.fraction (omega arith))
