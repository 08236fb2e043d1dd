-- `fields::answer_in` meets its contract. Each field is read where the fields before it end. Assumes nothing.
use Rattle.envelope.specs.Envelope.{values_at}
use Rattle.fields.proofs.Telling.{answer_told, named_tells, unnamed_tells}
use Rattle.fields.proofs.body.answer_in.Goals as goal
use Rattle.fields.proofs.body.answer_in.Goals.{in-Unnamed, in-Named}

pub returns : goal.returns
unfolding values_at
returns c =
    let a = c.args in
    rw (c.number_at-2.ensures, c.number_at-3.ensures, c.number_at-4.ensures, c.number_at-5.ensures, c.estimate_in.ensures)
    (elim c.match-kind.branch [
      | in-Unnamed w ↦ rw w.winner-is (answer_told a.bytes.now a.kind (unnamed_tells w.in-Unnamed.is))
      | in-Named w ↦
          rw (w.winner-is, w.number_at.ensures, w.number_at-in-Named.ensures) (answer_told a.bytes.now a.kind (named_tells w.in-Named.is))
    ])
