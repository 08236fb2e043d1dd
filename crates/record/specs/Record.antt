-- What the writer and the reader of a record answer: 2, then 8, then 9, and what the writer leaves in a lent slice. Definitions only.
use Rattle.std.specs.Prelude.{ℕ, Bool, cond, List, T, eqb, ltb, length}
use Rattle.std.specs.Float.{binary64}
use Rattle.std.specs.Float.Ieee.{fits}
use Rattle.answer.specs.Numbers.{done, too_short, bad_frame, bad_answer}
use Rattle.answer.specs.Refused.{refused}
use Rattle.answer.specs.declared.Answer.{Answer}
use Rattle.envelope.specs.Envelope.{following, framed, put_at_start}
use Rattle.fields.specs.Fields.{answer_in, answer_kind, answer_record, answer_size, fields_of, is_kind, named_kind, tells}
use Rattle.recordable.specs.Recordable.{held_as, holdable}
use Rattle.recordable.specs.declared.Held.{Held}
use Rattle.recordable.specs.declared.Held.TheVariants.{Unnamed, Named}
use Rattle.record.specs.declared.Written.{Written}

-- the answer that is held, named or not
abbrev pub answer_held : Held → Answer
answer_held (Unnamed a) = a
answer_held (Named a) = a

-- whether a record of a kind may hold it
abbrev pub holds : ℕ → Held → Bool
holds kind h = holdable (tells kind) h

-- by which number the writer refuses, and `done` where it does not. "2 if the output is too short": for the kind asked for, and for the least record
-- there is where there is no such kind
unfoldable pub write_number : Held → ℕ → List ℕ → ℕ
write_number h kind out =
    cond (ltb (length out) (answer_size kind)) too_short
    (cond (is_kind kind) (cond (holds kind h) done bad_answer) bad_frame)

unfoldable pub written_of : Held → ℕ → List ℕ → Written
written_of h kind out =
    let n = write_number h kind out in
    record { number = n; size = cond (eqb n done) (answer_size kind) 0 }

-- the record at the slice's start, and on a refusal all as it was
unfoldable pub written_in : Held → ℕ → List ℕ → List ℕ
written_in h kind out = cond (eqb (write_number h kind out) done) (put_at_start (answer_record kind (answer_held h)) out) out

-- whether a whole record of a kind stands at the start
abbrev pub framed_as : ℕ → List ℕ → Bool
framed_as kind bytes = framed kind (following (fields_of kind)) bytes

-- the kind of the record at the start, and 0, which is no kind, where none stands there: "a wrong length, kind or end of input"
unfoldable pub kind_in : List ℕ → ℕ
kind_in bytes = cond (framed_as answer_kind bytes) answer_kind (cond (framed_as named_kind bytes) named_kind 0)

-- what a record of a kind at the start holds: "a kind 1 result with both marked absent and not as 0"
unfoldable pub held_in : ℕ → List ℕ → Held
held_in kind bytes = held_as (tells kind) (answer_in kind bytes)

-- what a reader says: the answer number, how many bytes the record takes, and what it holds
pub record Reading : Type 0 where
  pub number : ℕ
  pub size : ℕ
  pub held : Held

-- the same without what it holds
pub record Extent : Type 0 where
  pub number : ℕ
  pub size : ℕ

-- nothing was read: "every field of the answer as in a refusal", and who predicted is absent
abbrev pub not_read : ℕ → Reading
not_read n = record { number = n; size = 0; held = Unnamed (refused n) }

abbrev pub was_read : ℕ → Held → Reading
was_read kind h = record { number = done; size = answer_size kind; held = h }

-- what the reader says of the record at the start, whatever follows it
unfoldable pub reading_of : List ℕ → Reading
reading_of bytes =
    let kind = kind_in bytes in
    let h = held_in kind bytes in
    cond (is_kind kind) (cond (holds kind h) (was_read kind h) (not_read bad_answer)) (not_read bad_frame)

-- the same without the answer
abbrev pub extent_of : List ℕ → Extent
extent_of bytes = record { number = (reading_of bytes).number; size = (reading_of bytes).size }

-- an answer whose floats are doubles, as every f64 of a program is
pub record Doubles (a : Answer) : Type 0 where
  pub global : T (fits binary64 a.estimate.p_global)
  pub prime : T (fits binary64 a.estimate.p_global_prime)
  pub local : T (fits binary64 a.estimate.p_local)
  pub entropy : T (fits binary64 a.estimate.min_entropy)

-- an answer without who predicted
abbrev pub unnamed : Answer → Answer
unnamed a =
    record { number = a.number; place = a.place; k = a.k; rounds = a.rounds; winner = 0; score = 0; estimate = a.estimate }

-- what a record of a kind keeps of what it was given: who predicted only where it tells it
unfoldable pub kept : ℕ → Held → Held
kept kind h = cond (tells kind) h (Unnamed (unnamed (answer_held h)))
