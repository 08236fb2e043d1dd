-- `Race::outcome` meets its contract: the winner's score is the largest. Assumes nothing.
use mathlib.Core.Path.{refl}
use Rattle.verdicts.proofs.Stepping.{held_score}
use Rattle.verdicts.proofs.place.Race.outcome.Goals as goal

pub returns : goal.returns
returns g c = rw (← c.self.view_is, held_score c.self.invariant) refl
