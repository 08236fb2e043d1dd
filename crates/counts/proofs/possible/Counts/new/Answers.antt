-- `Counts::new` gives counts that can be: none of the tests refused them. Assumes nothing.
use mathlib.Core.Path.{sym, ◌∙◌}
use Rattle.counts.proofs.Refusals.{counts_can_be}
use Rattle.counts.proofs.possible.Counts.new.Goals as goal

pub invariant_of-result : goal.invariant_of-result
invariant_of-result c = record { possible = counts_can_be _ _ _ _ (sym c.impossible_counts.ensures ∙ c.if-impossible_counts.false) }
