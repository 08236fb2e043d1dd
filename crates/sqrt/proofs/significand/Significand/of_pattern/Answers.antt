-- `Significand::of_pattern` meets its contract. A subnormal's pattern is its fraction; any other number has its leading one added to the fraction.
-- Assumes nothing.
use mathlib.Core.Path.{ap, ◌∙◌}
use Prim.Native.Nat.{ℕ, ◌*◌, ◌^◌}
use Rattle.sqrt.proofs.Patterns.{units_low, high_digits}
use Rattle.sqrt.proofs.significand.Significand.of_pattern.Goals as goal

pub returns-then-exponent-eq0 : goal.returns-then-exponent-eq0
returns-then-exponent-eq0 c = ap (λ (n : ℕ). n * 2 ^ 52) (units_low c.args.bits c.if-exponent-eq0.true) ∙ c.of_subnormal.ensures

pub returns : goal.returns
returns c = high_digits c.args.bits c.if-exponent-eq0.false
