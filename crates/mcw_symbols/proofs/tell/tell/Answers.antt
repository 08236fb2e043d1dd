-- `tell::tell` meets its contract. The marks are gathered into digits; from the longest window's size on every window takes part. Assumes nothing.
use Rattle.mcw_symbols.specs.Inner.Ask.{part_at}
use Rattle.mcw_symbols.proofs.Telling.{all_speak, taking_marks}
use Rattle.mcw_symbols.proofs.tell.tell.Goals as goal

pub returns-then-i-ge-FOURTH : goal.returns-then-i-ge-FOURTH
returns-then-i-ge-FOURTH c = record { rights_are = c.digits_of-rights.ensures; spoken = all_speak c.args.i c.if-i-ge-FOURTH.true }

pub gather-speaking-requires : goal.gather-speaking-requires
gather-speaking-requires c = taking_marks c.args.taking c.args.i c.requires.1

pub returns : goal.returns
returns c =
    record { rights_are = c.digits_of-rights.ensures; spoken = λ j l. c.gather-speaking.ensures.1 j l (part_at c.args.i j) (c.requires.1 j l) }
