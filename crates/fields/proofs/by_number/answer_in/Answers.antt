-- `by_number::answer_in` meets its contract. It is the answer of a kind with the fields of the number's. Assumes nothing.
use mathlib.Core.Path.{sym, ap, ◌∙◌, subst}
use mathlib.Core.List.{List}
use Prim.Native.Nat.{◌≤◌}
use lib.ListN.{length}
use Rattle.answer.specs.declared.Answer.{Answer}
use Rattle.envelope.specs.Envelope.{Field, body_start, record_size, values_at}
use Rattle.fields.specs.Fields.{answer_of}
use Rattle.fields.proofs.by_number.answer_in.Goals as goal

pub answer_in-requires : goal.answer_in-requires
answer_in-requires c =
    subst (λ (fs : List (Field Answer)). record_size fs ≤ length c.args.bytes.now) (sym c.kind_of.ensures) c.requires

pub returns : goal.returns
returns c =
    c.answer_in.ensures
    ∙ ap (λ (fs : List (Field Answer)). answer_of (values_at fs body_start c.args.bytes.now)) c.kind_of.ensures
