-- `lookup` meets its contract: the value that is read is the best of the context, and 0 is that of a word of which nothing was counted. The rest of
-- a best by 256 is its symbol. Assumes nothing.
use mathlib.Core.Path.{ap, ◌∙◌}
use native.Mathlib.Omega.{arith}
use Rattle.mmc_store.specs.Inner.Answers.{context_of}
use Rattle.mmc_store.proofs.Saying.{answers_present}
use Rattle.mmc_store.proofs.look.lookup.Goals as goal

pub returns : goal.returns
returns c = answers_present c.value_in-best.result (λ z. omega arith) ∙ ap context_of c.value_in-best.ensures.0
