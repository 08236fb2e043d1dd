-- `record::read::readable` meets its contract. The kind is tested before a field is read, and then what the fields hold. Assumes nothing.
use mathlib.Core.Path.{◌≡◌, sym, ap, ◌∙◌}
use Rattle.std.proofs.Common.{rules, Err}
use Rattle.answer.specs.Results.{number_in, number_of}
use Rattle.record.proofs.Results.{bad_kind, long, no_kind, tested}
use Rattle.record.specs.Record.{Reading}
use Rattle.record.specs.Inner.Kinds.{kind_told}
use Rattle.record.proofs.read.readable.Goals as goal

pub returns-in_err-kind-clause-number : goal.returns-in_err-kind-clause-number
returns-in_err-kind-clause-number c =
    let e = c.in_err-kind.field-0.0 in
    let none = no_kind c.kind_in.result (sym c.in_err-kind.ensures.ok_part) c.in_err-kind.ensures.value in
    let same : c.from_residual.result ≡ Err e = search rules in
    ap number_in same ∙ ap number_of none.0 ∙ sym (bad_kind c.args.bytes.now (sym c.kind_in.ensures ∙ none.1))

pub answer_in-requires : goal.answer_in-requires
answer_in-requires c = long c.args.bytes.now c.in_ok-kind.kind (ap kind_told (sym c.in_ok-kind.ensures.ok_part) ∙ c.kind_in.ensures)

pub returns-then-is_readable-clause-number : goal.returns-then-is_readable-clause-number
returns-then-is_readable-clause-number c =
    let is = ap kind_told (sym c.in_ok-kind.ensures.ok_part) ∙ c.kind_in.ensures in
    sym (ap (λ (r : Reading). r.number)
    (tested c.args.bytes.now c.in_ok-kind.kind is c.tells_winner.ensures c.answer_in.ensures c.is_readable.ensures c.if-is_readable.true))

pub returns-else-is_readable-clause-number : goal.returns-else-is_readable-clause-number
returns-else-is_readable-clause-number c =
    let is = ap kind_told (sym c.in_ok-kind.ensures.ok_part) ∙ c.kind_in.ensures in
    sym (ap (λ (r : Reading). r.number)
    (tested c.args.bytes.now c.in_ok-kind.kind is c.tells_winner.ensures c.answer_in.ensures c.is_readable.ensures c.if-is_readable.false))
