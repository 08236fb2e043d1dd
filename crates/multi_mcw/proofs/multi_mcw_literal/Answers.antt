-- `multi_mcw_literal` meets its contract. A refusal leaves the output as it was; else the output begins with the translated symbols, over which the race
-- is run. Assumes nothing.
use mathlib.Core.Path.{◌∙◌}
use native.Mathlib.Omega.{arith}
use Rattle.answer.proofs.Results.{rated_refused}
use Rattle.multi_mcw.proofs.Answers.{literal_refused, literal_asks, literal_ran}
use Rattle.multi_mcw.proofs.multi_mcw_literal.Goals as goal

pub returns-in_err-accept_symbols : goal.returns-in_err-accept_symbols
returns-in_err-accept_symbols c =
    let l = literal_refused c.args.symbols.now c.args.out.now c.in_err-accept_symbols.field-0.0 c.in_err-accept_symbols.ensures in
    (rated_refused c.from_residual.result c.in_err-accept_symbols.field-0.0 c.from_residual.ensures ∙ l.0, l.1)

pub mcw_translated-requires : goal.mcw_translated-requires
mcw_translated-requires c =
    literal_asks c.args.symbols.now c.args.out.now c.in_ok-accept_symbols.ensures c.in_ok-size.ensures.0 c.in_ok-size.ensures.1
    (λ i l. omega (arith, c.type_inv.symbols i))

pub returns : goal.returns
returns c =
    literal_ran c.args.symbols.now c.args.out.now c.in_ok-accept_symbols.ensures c.in_ok-size.ensures.0 c.in_ok-size.ensures.1
    c.rate.result c.mcw_translated.ensures c.rate.ensures
