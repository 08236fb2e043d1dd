use mathlib.Core.Path.{◌≡◌}
use Rattle.race.specs.Inner.Held.{after}
use Rattle.race.proofs.Leading.{Led}
use Rattle.race.proofs.Race.lead.Given as goal

abbrev pub invariant-loop-j : goal.invariant-loop-j
invariant-loop-j g l =
    let r = l.initial.self-inside in
    Led l.guesses (after r.winner r.scores) l.x l.self-inside.scores l.winner l.bar l.j × (l.self-inside.tally ≡ r.tally)
