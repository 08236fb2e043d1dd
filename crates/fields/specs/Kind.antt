-- The numbers of the kinds of record that hold an answer. Definitions only.
use Rattle.std.specs.Prelude.{ℕ}
use Rattle.fields.specs.Fields.{answer_kind, named_kind}
use Rattle.fields.specs.declared.kind.Kind.{Kind}
use Rattle.fields.specs.declared.kind.Kind.TheVariants.{Unnamed, Named}

abbrev pub kind_number : Kind → ℕ
kind_number Unnamed = answer_kind
kind_number Named = named_kind
