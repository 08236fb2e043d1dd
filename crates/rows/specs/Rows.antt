-- Several records in a row: each starts where the one before it ends. Definitions only.
use Rattle.std.specs.Prelude.{ℕ, zero, suc, ◌+◌, ◌≡◌, true, cond, List, [], ◌∷◌, ◌++◌, eqb, leb, length, drop}
use Rattle.answer.specs.Numbers.{done}
use Rattle.fields.specs.Fields.{answer_record, is_kind}
use Rattle.record.specs.Record.{Reading, Doubles, answer_held, holds, reading_of}
use Rattle.recordable.specs.declared.Held.{Held}
use Rattle.rows.specs.declared.Row.{Row}

-- the byte at which the record of a place starts, counted from 0. One that is not read takes no bytes, so nothing is read past a bad one.
unfoldable pub start_of : List ℕ → ℕ → ℕ
start_of bytes zero = 0
start_of bytes (suc place) = start_of bytes place + (reading_of (drop (start_of bytes place) bytes)).size

-- the record of a place; that of the first bad one where one before it is bad, and past the last one "end of input"
unfoldable pub record_at : List ℕ → ℕ → Reading
record_at bytes place = reading_of (drop (start_of bytes place) bytes)

-- how many of the first n places have a good record
unfoldable pub good_among : List ℕ → ℕ → ℕ
good_among bytes zero = 0
good_among bytes (suc n) = good_among bytes n + cond (eqb (record_at bytes n).number done) 1 0

-- how many good records there are before the first bad one: each takes a byte at least
abbrev pub good_records : List ℕ → ℕ
good_records bytes = good_among bytes (length bytes)

-- the good ones, and where they end before the last byte the number of the first bad one
unfoldable pub row_of : List ℕ → Row
row_of bytes =
    let good = good_records bytes in
    let byte = start_of bytes good in
    record { good = good; number = cond (leb (length bytes) byte) done (record_at bytes good).number; byte = byte }

-- what a record is written from: a kind, and what the record is to hold
pub record Item : Type 0 where
  pub kind : ℕ
  pub held : Held

abbrev pub bytes_of : Item → List ℕ
bytes_of i = answer_record i.kind (answer_held i.held)

-- their records, one after the other
unfoldable pub records_of : List Item → List ℕ
records_of [] = []
records_of (i ∷ items) = bytes_of i ++ records_of items

-- a record of the kind may hold it, and its answer is a program's
pub record Good (i : Item) : Type 0 where
  pub kind : is_kind i.kind ≡ true
  pub held : holds i.kind i.held ≡ true
  pub doubles : Doubles (answer_held i.held)

unfoldable pub AllGood : List Item → Type 0
AllGood [] = Unit
AllGood (i ∷ items) = Good i × AllGood items
