-- What is read of several records to a caller that has no enum: the number of the first bad one, 0 where none is bad. Definitions only.
use Rattle.std.specs.Prelude.{ℕ, Option, None, Some}
use Rattle.answer.specs.Numbers.{done}
use Rattle.answer.specs.Results.{number_of}
use Rattle.answer.specs.declared.Refusal.{Refusal}
use Rattle.rows.specs.declared.Records.{Records}
use Rattle.rows.specs.declared.Row.{Row}

-- the number of a refusal that may be missing
abbrev pub number_told : Option Refusal → ℕ
number_told None = done
number_told (Some e) = number_of e

abbrev pub row_told : Records → Row
row_told r = record { good = r.good; number = number_told r.bad; byte = r.byte }
