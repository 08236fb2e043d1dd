-- What the results of the writer and the reader are to a caller that has no enum: the answer number, and 0 bytes where it refuses. Definitions only.
use Rattle.std.specs.Prelude.{ℕ, Result, Ok, Err}
use Rattle.answer.specs.Numbers.{done}
use Rattle.answer.specs.Results.{number_of, refused_by}
use Rattle.answer.specs.declared.Refusal.{Refusal}
use Rattle.recordable.specs.declared.Held.TheVariants.{Unnamed}
use Rattle.record.specs.Record.{Extent, Reading}
use Rattle.record.specs.declared.Reading.{Reading as Record}
use Rattle.record.specs.declared.Written.{Written}

-- how many bytes were written
abbrev pub written_told : Result ℕ Refusal → Written
written_told (Ok size) = record { number = done; size = size }
written_told (Err e) = record { number = number_of e; size = 0 }

-- how many bytes a record takes that can be read
abbrev pub extent_told : Result ℕ Refusal → Extent
extent_told (Ok size) = record { number = done; size = size }
extent_told (Err e) = record { number = number_of e; size = 0 }

-- what was read
abbrev pub reading_told : Result Record Refusal → Reading
reading_told (Ok r) = record { number = done; size = r.size; held = r.held }
reading_told (Err e) = record { number = number_of e; size = 0; held = Unnamed (refused_by e) }
