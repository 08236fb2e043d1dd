-- `ln::tail` meets its contract. The code is the definition, word for word, and a literal is the double of its pattern. Assumes nothing.
use mathlib.Core.Path.{refl}
use Rattle.ln.specs.Ln.{tail}
use Rattle.ln.proofs.tail.Goals as goal

pub returns : goal.returns
unfolding tail
returns c = refl
