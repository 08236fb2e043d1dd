-- What each turn of `rows::start_of` keeps true: every record before `at` is good, and there are as many of them as turns.
use Rattle.rows.proofs.Passing.{Passed}
use Rattle.rows.proofs.start_of.Given as goal

abbrev pub invariant-loop : goal.invariant-loop
invariant-loop l = Passed l.bytes l.counter l.at
