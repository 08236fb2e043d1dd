-- `Source::len` meets its contract. There are `width` bits for each symbol. Assumes nothing.
use mathlib.Core.Path.{sym}
use native.Mathlib.Nat.{le_refl}
use native.Mathlib.Omega.{arith}
use Rattle.capture.proofs.Limits.{source_short}
use Rattle.capture.proofs.Sources.{all_length}
use Rattle.capture.proofs.source.Source.len.Goals as goal

pub overflow_mul-result : goal.overflow_mul-result
overflow_mul-result c = rw c.from.ensures (omega (arith, source_short c.self.invariant (le_refl _)))

pub returns : goal.returns
returns c = rw (c.from.ensures, ← c.self.view_is) (sym (all_length _ _))
