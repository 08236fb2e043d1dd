-- `tell::digits_of` meets its contract. Where there is no mark every digit is 0. Assumes nothing.
use Rattle.mcw_symbols.proofs.Telling.{none_gathered}
use Rattle.mcw_symbols.proofs.tell.digits_of.Goals as goal

pub returns-then-marks-eq0 : goal.returns-then-marks-eq0
returns-then-marks-eq0 c = none_gathered c.args.marks c.if-marks-eq0.true

pub returns : goal.returns
returns c = record { few = c.gather.ensures.0; each = c.gather.ensures.1 }
