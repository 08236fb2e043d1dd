-- `windows::key_of` meets its contract. Each lane has room for 1 more, so the sum fits. Assumes nothing.
use native.Mathlib.Omega.{arith}
use Rattle.mcw_symbols.proofs.Counts.{key_fits}
use Rattle.mcw_symbols.proofs.windows.key_of.Goals as goal

pub overflow_add-result : goal.overflow_add-result
overflow_add-result c = omega (arith, key_fits c.args.n c.requires (omega (arith, c.ranges.n)))
