-- What is left of the updates gives the same x from here as from the start.
use mathlib.Core.Path.{◌≡◌}
use Prim.Native.Nat.{◌-◌}
use Rattle.function.specs.Function.{updates, settled, fixed_point}
use Rattle.function.proofs.fixed_point.Given as goal

abbrev pub invariant-loop : goal.invariant-loop
invariant-loop l = settled (updates - l.counter) l.a l.r l.x l.xlast ≡ fixed_point l.p l.r
