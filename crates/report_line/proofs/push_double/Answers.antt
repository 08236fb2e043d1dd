-- `report_line::push_double` meets its contract: sixteen digits, one for each four bits, and the byte behind them. Assumes nothing.
use Rattle.std.proofs.Common.{sym, ◌∙◌, arith, append-nil}
use Rattle.report_line.specs.Numerals.{digits}
use Rattle.report_line.proofs.Numerals.{whole_pattern}
use Rattle.report_line.proofs.push_double.Goals as goal

pub loop-i-init : goal.loop-i-init
unfolding digits
loop-i-init c = (sym (append-nil c.args.text.now.items), omega arith)

pub returns-clause-items : goal.returns-clause-items
returns-clause-items c =
    let l = c.loop-i in
    c.push-2.ensures.items
    ∙ whole_pattern c.args.text.now.items l.text.items c.args.x c.bits_of-bits.result l.i c.args.after c.bits_of-bits.ensures (omega arith) l.invariant.0
