-- `bisect::solve` meets its contract. After i rounds those that may follow lead where the definition leads, and begin as many. Assumes nothing.
use mathlib.Core.Path.{sym, ◌∙◌}
use native.Mathlib.Omega.{arith}
use Rattle.bisect.specs.Bisection.{round_limit}
use Rattle.bisect.proofs.Rounds.{begun, stopped, spent, goes_on}
use Rattle.bisect.proofs.solve.Goals as goal

pub loop-past-init : goal.loop-past-init
loop-past-init c = begun c.open-b.ensures

pub returns-in-Break : goal.returns-in-Break
returns-in-Break c =
    let l = c.loop-past in
    stopped round_limit l.past l.invariant c.loop-past-test.true (sym c.round.ensures ∙ c.in-Break.is)

pub loop-past-preserved : goal.loop-past-preserved
loop-past-preserved c =
    let l = c.loop-past in
    goes_on round_limit l.past l.invariant c.loop-past-test.true (sym c.round.ensures ∙ c.in-Continue.is)

pub returns : goal.returns
returns c = spent round_limit c.loop-past.past c.loop-past.invariant c.loop-past-test.false (omega arith)
