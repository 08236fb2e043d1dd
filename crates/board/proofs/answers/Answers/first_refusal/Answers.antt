-- `board::answers::Answers::first_refusal` meets its contract. It asks the four in the definition's order. Assumes nothing.
use mathlib.Core.Path.{◌∙◌}
use Rattle.board.specs.Board.{refusal}
use Rattle.board.specs.Given.{refused_place}
use Rattle.board.proofs.Refusing.{first_number, first_place}
use Rattle.board.proofs.answers.Answers.first_refusal.Goals as goal

pub returns-clause-number : goal.returns-clause-number
unfolding refusal
returns-clause-number c =
    let four = first_number c.refusal_of.result c.refusal_of-2.result c.refusal_of-3.result c.refusal_of-4.result in
    rw (c.or-3.ensures, c.or-2.ensures, c.or.ensures)
    (four ∙ rw (c.refusal_of.ensures.number, c.refusal_of-2.ensures.number, c.refusal_of-3.ensures.number, c.refusal_of-4.ensures.number))

pub returns-clause-place : goal.returns-clause-place
unfolding refused_place
returns-clause-place c =
    let four = first_place c.refusal_of.result c.refusal_of-2.result c.refusal_of-3.result c.refusal_of-4.result in
    rw (c.or-3.ensures, c.or-2.ensures, c.or.ensures)
    (four ∙ simp (c.refusal_of.ensures.number, c.refusal_of-2.ensures.number, c.refusal_of-3.ensures.number, c.refusal_of.ensures.place, c.refusal_of-2.ensures.place, c.refusal_of-3.ensures.place, c.refusal_of-4.ensures.place))
