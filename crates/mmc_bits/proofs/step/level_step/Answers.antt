-- `level_step` meets its contract: the two counters are read, and that of the bit goes back one larger. Assumes nothing.
use native.Mathlib.Omega.{arith}
use Rattle.mmc_bits.proofs.step.level_step.Goals as goal

pub overflow_add-part : goal.overflow_add-part
overflow_add-part c = omega (arith, c.requires.2)
