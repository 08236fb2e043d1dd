-- `lanes::choose::larger` meets its contract. It picks a where `at_least` marks that a is b or more, and b elsewhere: that is the larger.
-- Assumes nothing.
use mathlib.Core.Path.{◌∙◌}
use lib.Dec.{leb}
use Rattle.lanes.specs.Inner.Lanes.{lane}
use Rattle.lanes.proofs.Marking.{marks_of}
use Rattle.lanes.proofs.Choosing.{larger_told}
use Rattle.lanes.proofs.choose.larger.Goals as goal

pub pick-requires : goal.pick-requires
pick-requires c =
    let a = c.args in
    (marks_of c.at_least.result (λ j. leb (lane a.b j) (lane a.a j)) c.at_least.ensures, c.requires)

pub returns : goal.returns
returns c =
    let a = c.args in
    λ j l. c.pick.ensures j l (leb (lane a.b j) (lane a.a j)) (c.at_least.ensures j l) ∙ larger_told (lane a.a j) (lane a.b j)
