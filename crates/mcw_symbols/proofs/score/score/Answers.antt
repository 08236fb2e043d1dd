-- `score::score` meets its contract. Where no window is right the standing stays; else `lead` takes it on by the four verdicts. Assumes nothing.
use mathlib.Core.Path.{ap, sym, ◌∙◌}
use Rattle.race.specs.Inner.Raced.{Raced, counted, pointed}
use Rattle.mcw_symbols.specs.Inner.Score.{numbers, right}
use Rattle.mcw_symbols.proofs.Scoring.{counted_alone, counted_led}
use Rattle.mcw_symbols.proofs.score.score.Goals as goal

pub returns-then-masks-ne0 : goal.returns-then-masks-ne0
returns-then-masks-ne0 c =
    c.lead.ensures
    ∙ rw (c.verdicts.ensures, c.count.ensures, c.verdict_of.ensures)
    (counted_led c.args.race.now c.args.masks _ c.winner-winner.ensures.within c.winner-winner.ensures.value)

pub returns-else-masks-ne0 : goal.returns-else-masks-ne0
returns-else-masks-ne0 c =
    c.count.ensures
    ∙ rw c.verdict_of.ensures
    (counted_alone c.args.race.now c.args.masks _ c.winner-winner.ensures.within c.winner-winner.ensures.value c.if-masks-ne0.false)
