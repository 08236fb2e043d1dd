-- The rounds that may follow lead where the definition leads (`Underway`).
use Rattle.bisect.specs.Bisection.{round_limit, local_value, local_rounds}
use Rattle.bisect.proofs.Rounds.{Underway}
use Rattle.bisect.proofs.solve.Given as goal

abbrev pub invariant-loop-past : goal.invariant-loop-past
invariant-loop-past l =
    let run = l.runs.longest in
    let n = l.runs.n in
    Underway round_limit l.past l.b l.ldomain run n (local_value l.ldomain run n) (local_rounds l.ldomain run n)
