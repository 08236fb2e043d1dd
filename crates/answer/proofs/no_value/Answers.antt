-- `answer::no_value` meets its contract. The constant's bits are those of the double -1.0. Assumes nothing.
use mathlib.Core.Path.{refl}
use lib.Ieee.{neg, of_bits}
use Rattle.answer.proofs.no_value.Goals as goal

pub returns : goal.returns
unfolding neg of_bits
returns c = refl
