-- The invariant is `Taken`: m * 4 ^ turns is the square of q, with the rest rem, and then the digits that are left.
use Rattle.sqrt.proofs.Steps.{Taken}
use Rattle.sqrt.proofs.digits.Given as goal

abbrev pub invariant-loop : goal.invariant-loop
invariant-loop l = Taken l.m l.w l.q l.rem l.counter
