-- `Race::new` meets its contract: nobody has a deficit, and nobody a score. Assumes nothing.
use mathlib.Core.Path.{refl}
use Rattle.verdicts.proofs.Stepping.{holds_none, scores_none}
use Rattle.verdicts.proofs.place.Race.new.Goals as goal

pub invariant_of-result : goal.invariant_of-result
invariant_of-result g c = holds_none g.row.M 6 c.requires.some c.requires.few

pub returns : goal.returns
returns g c = let d = c.default.ensures in rw (scores_none g.row.M 6, d.0, d.1.0, d.1.1) refl
