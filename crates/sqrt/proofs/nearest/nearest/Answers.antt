-- `sqrt::nearest::nearest` meets its contract: the tests on the excess of the guess say which of three numbers is the nearest, and else the root's
-- digits are found one by one.
-- Assumes nothing.
use Prim.Native.Nat.{◌-◌}
use native.Mathlib.Omega.{arith}
use Rattle.sqrt.proofs.Excess.{over_nearest, over_second, over_third}
use Rattle.sqrt.proofs.Rounded.{root_54}
use Rattle.sqrt.proofs.nearest.nearest.Goals as goal

pub returns-then-over-q : goal.returns-then-over-q
returns-then-over-q c = over_nearest c.args.m (c.args.guess - 1) c.in-Some.over c.in-Some.ensures (omega arith) (omega arith)

pub returns-then-over-q-2 : goal.returns-then-over-q-2
returns-then-over-q-2 c = over_second c.args.m (c.args.guess - 1) c.in-Some.over c.in-Some.ensures (omega arith) (omega arith)

pub returns-then-over-q-3 : goal.returns-then-over-q-3
returns-then-over-q-3 c = over_third c.args.m (c.args.guess - 1) c.in-Some.over c.in-Some.ensures (omega arith) (omega arith)

pub overflow_add-result-2 : goal.overflow_add-result-2
overflow_add-result-2 c = record { fits = omega (arith, c.digits.ensures, root_54 c.args.m c.requires.0 c.requires.1) }
