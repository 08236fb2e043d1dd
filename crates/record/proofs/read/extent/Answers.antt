-- `record::read::extent` meets its contract. It tells the size of the kind that can be read. Assumes nothing.
use mathlib.Core.Path.{◌≡◌, sym, ap, ◌∙◌}
use Rattle.std.proofs.Common.{rules, Err}
use Rattle.fields.specs.Fields.{answer_size}
use Rattle.record.proofs.Cases.{read_size}
use Rattle.record.proofs.Results.{extent_refused}
use Rattle.record.specs.Told.{extent_told}
use Rattle.record.proofs.read.extent.Goals as goal

pub returns-in_err-kind : goal.returns-in_err-kind
returns-in_err-kind c =
    let e = c.in_err-kind.field-0.0 in
    let same : c.from_residual.result ≡ Err e = search rules in
    ap extent_told same ∙ extent_refused c.args.bytes.now e c.in_err-kind.ensures.number

pub returns : goal.returns
returns c =
    let read = sym c.in_ok-kind.ensures.number in
    cc (read, c.size.ensures, ap answer_size c.in_ok-kind.ensures.kind, read_size c.args.bytes.now read)
