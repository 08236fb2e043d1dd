-- `fields::put_answer` meets its contract. Who predicted is put behind the fields that every kind has, where the kind tells it. Assumes nothing.
use mathlib.Core.Path.{◌≡◌, sym, ap, ◌∙◌}
use mathlib.Core.Bool.{true}
use mathlib.Core.List.{List}
use native.Mathlib.Omega.{arith}
use lib.Seq.{sets}
use Rattle.answer.specs.declared.Answer.{Answer}
use Rattle.envelope.specs.Envelope.{Field, body_of, body_size}
use Rattle.envelope.proofs.Putting.{Put, then_put}
use Rattle.fields.specs.Fields.{answer_fields, field, tells}
use Rattle.fields.specs.Kind.{kind_number}
use Rattle.fields.proofs.Telling.{fields_by_lem, least}
use Rattle.fields.proofs.body.put_answer.Goals as goal

pub put_shared-requires : goal.put_shared-requires
put_shared-requires c = omega (arith, c.requires, least (kind_number c.args.kind))

pub returns-then-tells_winner : goal.returns-then-tells_winner
unfolding body_size
returns-then-tells_winner c =
    let a = c.args in
    let has : tells (kind_number a.kind) ≡ true = sym c.tells_winner.ensures ∙ c.if-tells_winner.true in
    let p0 : Put a.out.now 6 answer_fields a.a.now _ = record { stored = c.put_shared.ensures } in
    let p1 = then_put (field 1 (λ x. x.winner)) p0 c.put_number.ensures in
    (then_put (field 4 (λ x. x.score)) p1 c.put_number-then-tells_winner.ensures).stored
    ∙ ap (λ (fs : List (Field Answer)). sets a.out.now 6 (body_of fs a.a.now)) (sym (fields_by_lem (kind_number a.kind) has))

pub returns-else-tells_winner : goal.returns-else-tells_winner
returns-else-tells_winner c =
    let a = c.args in
    c.put_shared.ensures
    ∙ ap (λ (fs : List (Field Answer)). sets a.out.now 6 (body_of fs a.a.now))
    (sym (fields_by_lem (kind_number a.kind) (sym c.tells_winner.ensures ∙ c.if-tells_winner.false)))
