-- `rows::record_at` meets its contract. The record is read where it starts. Assumes nothing.
use mathlib.Core.Path.{ap, ◌∙◌}
use Prim.Native.Nat.{ℕ}
use lib.ListN.{drop}
use Rattle.record.specs.Record.{reading_of}
use Rattle.rows.specs.Rows.{record_at}
use Rattle.rows.proofs.Passing.{rest_is}
use Rattle.rows.proofs.record_at.Goals as goal

pub returns : goal.returns
unfolding record_at
returns c =
    let bytes = c.args.bytes.now in
    c.read_record.ensures ∙ ap reading_of (rest_is bytes c.start_of-at.result) ∙ ap (λ (at : ℕ). reading_of (drop at bytes)) c.start_of-at.ensures.0
