-- A pair that is counted again makes no entry, and any other is an entry where the level is below its cap. Each answer is one of the level's three
-- rules, by the tests that led there. Assumes nothing.
use borrow.Author.Rules.{rules}
use native.Mathlib.Omega.{arith}
use Rattle.std.proofs.lemmas.Grind.{common_steps}
use Rattle.mmc_store.specs.Inner.Places.{counted-again, at_the_cap}
use Rattle.mmc_store.proofs.level.takes.Goals as goal

pub returns-then-n-gt0 : goal.returns-then-n-gt0
returns-then-n-gt0 c = search (rules, counted-again)

pub returns : goal.returns
returns c = grind (arith, common_steps, at_the_cap)
