-- `capture::bits::first_wide` meets its contract. `position` finds the first symbol above 1. Assumes nothing.
use mathlib.Core.Path.{◌∙◌}
use lib.Dec.{ltb}
use Rattle.std.proofs.Common.{rules}
use borrow.Author.Tests.{tests}
use Rattle.std.proofs.lemmas.Iterator.{YieldsList-from_slice}
use Rattle.std.proofs.lemmas.Iterator.Search.{position_from_yields_List}
use Rattle.capture.proofs.Widest.{wide_place}
use Rattle.capture.proofs.bits.first_wide.Goals as goal

pub returns : goal.returns
returns c =
    position_from_yields_List (λ x. ltb 1 x) _ _ _ c.position.ensures.ran (YieldsList-from_slice c.args.symbols.now cc)
    (λ x b q k. search (rules, tests))
    ∙ wide_place c.args.symbols.now
