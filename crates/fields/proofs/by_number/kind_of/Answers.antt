-- `by_number::kind_of` meets its contract. The fields of a number are those of whether it tells who predicted, and so are the kind's. Assumes nothing.
use mathlib.Core.Path.{refl, sym, ◌∙◌}
use Rattle.fields.specs.Kind.{kind_number}
use Rattle.fields.specs.declared.kind.Kind.TheVariants.{Unnamed, Named}
use Rattle.fields.proofs.Telling.{fields_by_lem, named_tells, unnamed_tells}
use Rattle.fields.proofs.by_number.kind_of.Goals as goal

pub returns-then-tells_winner : goal.returns-then-tells_winner
returns-then-tells_winner c =
    fields_by_lem (kind_number Named) (named_tells refl)
    ∙ sym (fields_by_lem c.args.number (sym c.tells_winner.ensures ∙ c.if-tells_winner.true))

pub returns-else-tells_winner : goal.returns-else-tells_winner
returns-else-tells_winner c =
    fields_by_lem (kind_number Unnamed) (unnamed_tells refl)
    ∙ sym (fields_by_lem c.args.number (sym c.tells_winner.ensures ∙ c.if-tells_winner.false))
