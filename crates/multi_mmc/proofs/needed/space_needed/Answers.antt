-- `needed::space_needed` meets its contract. Its test is the definition's. Assumes nothing.
use mathlib.Core.Path.{sym}
use native.Mathlib.Omega.{arith}
use Rattle.mmc_bits.specs.Space.{size}
use Rattle.mmc_store.specs.Space.{size as storeSize}
use Rattle.multi_mmc.proofs.LiteralAnswers.{two_needed, many_needed}
use Rattle.multi_mmc.proofs.needed.space_needed.Goals as goal

pub returns-then-alphabet_size-le2 : goal.returns-then-alphabet_size-le2
unfolding size
returns-then-alphabet_size-le2 c = sym (two_needed _ (omega (arith, c.alphabet_size.ensures, c.if-alphabet_size-le2.true)))

pub returns-else-alphabet_size-le2 : goal.returns-else-alphabet_size-le2
unfolding storeSize
returns-else-alphabet_size-le2 c = sym (many_needed _ (omega (arith, c.alphabet_size.ensures, c.if-alphabet_size-le2.false)))
