-- `zero_count::enclose` meets its contract: each return is one outcome of the tests about the guess. Assumes nothing.
use Rattle.std.proofs.Common.{sym, ◌∙◌}
use Rattle.zero_count.proofs.Search.{above, right_above, below, right_below}
use Rattle.zero_count.proofs.enclose.Goals as goal

pub returns-then-low_enough-2 : goal.returns-then-low_enough-2
returns-then-low_enough-2 c = above c.args.n c.args.guess c.requires.1 (sym c.low_enough.ensures ∙ c.if-low_enough.true)

pub returns-then-low_enough : goal.returns-then-low_enough
returns-then-low_enough c =
    right_above c.args.n c.args.guess c.requires.1 (sym c.low_enough.ensures ∙ c.if-low_enough.true)
    (sym c.low_enough-then-low_enough.ensures ∙ c.if-low_enough-2.false)

pub returns-then-low_enough-3 : goal.returns-then-low_enough-3
returns-then-low_enough-3 c =
    right_below c.args.n c.args.guess c.requires.1 c.requires.0 (sym c.low_enough-2.ensures ∙ c.if-low_enough-3.true)
    (sym c.low_enough.ensures ∙ c.if-low_enough.false)

pub returns : goal.returns
returns c = below c.args.n c.args.guess c.requires.1 c.requires.0 (sym c.low_enough.ensures ∙ c.if-low_enough.false)
