-- `record::read::read_record` meets its contract. What cannot be read is refused, and else what the record holds is read. Assumes nothing.
use mathlib.Core.Path.{◌≡◌, sym, ap, ◌∙◌}
use Prim.Native.Nat.{ℕ}
use Rattle.std.proofs.Common.{rules, Err}
use Rattle.fields.specs.Fields.{answer_size}
use Rattle.record.proofs.Cases.{reading_is}
use Rattle.record.proofs.Results.{long, reading_refused}
use Rattle.record.specs.Record.{held_in}
use Rattle.record.specs.Told.{reading_told}
use Rattle.record.proofs.read.read_record.Goals as goal

pub returns-in_err-kind : goal.returns-in_err-kind
returns-in_err-kind c =
    let e = c.in_err-kind.field-0.0 in
    let same : c.from_residual.result ≡ Err e = search rules in
    ap reading_told same ∙ reading_refused c.args.bytes.now e c.in_err-kind.ensures.number

pub held_in-requires : goal.held_in-requires
held_in-requires c = long c.args.bytes.now c.in_ok-kind.kind c.in_ok-kind.ensures.kind

pub returns : goal.returns
returns c =
    let bytes = c.args.bytes.now in
    let read = sym c.in_ok-kind.ensures.number in
    let is = c.in_ok-kind.ensures.kind in
    let held = c.held_in.ensures ∙ ap (λ (k : ℕ). held_in k bytes) is in
    cc (c.size.ensures, ap answer_size is, held, reading_is bytes read)
