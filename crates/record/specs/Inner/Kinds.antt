-- A kind that may be missing, by its number. Definitions only.
use Rattle.std.specs.Prelude.{ℕ, Option, None, Some}
use Rattle.fields.specs.Kind.{kind_number}
use Rattle.fields.specs.declared.kind.Kind.{Kind}

-- a kind by its number, and 0 where there is none
abbrev pub kind_told : Option Kind → ℕ
kind_told None = 0
kind_told (Some kind) = kind_number kind
