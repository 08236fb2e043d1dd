-- `by_number::put_answer` meets its contract. It puts the body of a kind with the fields of the number's. Assumes nothing.
use mathlib.Core.Path.{sym, ap, ◌∙◌, subst}
use mathlib.Core.List.{List}
use Prim.Native.Nat.{◌≤◌}
use lib.ListN.{length}
use lib.Seq.{sets}
use Rattle.answer.specs.declared.Answer.{Answer}
use Rattle.envelope.specs.Envelope.{Field, body_of, body_start, record_size}
use Rattle.fields.proofs.by_number.put_answer.Goals as goal

pub put_answer-requires : goal.put_answer-requires
put_answer-requires c =
    subst (λ (fs : List (Field Answer)). record_size fs ≤ length c.args.out.now) (sym c.kind_of.ensures) c.requires

pub returns : goal.returns
returns c =
    let a = c.args in
    c.put_answer.ensures ∙ ap (λ (fs : List (Field Answer)). sets a.out.now body_start (body_of fs a.a)) c.kind_of.ensures
