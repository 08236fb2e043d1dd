-- `Source::bits` meets its contract. The walk begins at the first bit. Assumes nothing.
use mathlib.Core.Path.{◌∙◌}
use Rattle.capture.proofs.Sources.{source_bits, walk_all}
use Rattle.capture.proofs.source.Source.bits.Goals as goal

pub returns-clause-all : goal.returns-clause-all
returns-clause-all c = rw c.from-width.ensures (walk_all _ _ ∙ c.self.view_is)

pub returns-clause-bits : goal.returns-clause-bits
returns-clause-bits c = rw (← c.self.view_is) (source_bits c.self.invariant)
