-- `sqrt::positive` meets its contract: the digits stand for the same number in the units of the root. Assumes nothing.
use mathlib.Core.Path.{subst}
use Prim.Native.Nat.{ℕ}
use Rattle.sqrt.specs.Inner.Steps.{Rooted, units_of}
use Rattle.sqrt.proofs.Powers.{in_units}
use Rattle.sqrt.proofs.positive.Goals as goal

pub returns : goal.returns
returns c =
    let s = c.of_pattern.result in
    subst (λ (n : ℕ). Rooted n c.rooted.result) (in_units (units_of c.args.bits) s.digits s.place c.of_pattern.ensures) c.rooted.ensures
