-- `windows::one_more` meets its contract. Each lane has room for 2 more, so the sum fits. Assumes nothing.
use native.Mathlib.Omega.{arith}
use Rattle.mcw_symbols.proofs.Counts.{more_fits}
use Rattle.mcw_symbols.proofs.windows.one_more.Goals as goal

pub overflow_add-result : goal.overflow_add-result
overflow_add-result c = omega (arith, more_fits c.args.n c.requires (omega (arith, c.ranges.n)))
