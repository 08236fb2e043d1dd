-- For callers that have no enum: "a flag beside the fields", 0 where who predicted is absent. Definitions only.
use Rattle.std.specs.Prelude.{ℕ, cond, eqb}
use Rattle.answer.specs.declared.Answer.{Answer}
use Rattle.recordable.specs.declared.Held.{Held}
use Rattle.recordable.specs.declared.Held.TheVariants.{Unnamed, Named}
use Rattle.record.specs.Record.{Reading, answer_held}
use Rattle.record.specs.declared.Flagged.{Flagged}

-- an answer and its flag, as a record holds it
abbrev pub held_by : Answer → ℕ → Held
held_by a told = cond (eqb told 0) (Unnamed a) (Named a)

abbrev pub told_of : Held → ℕ
told_of (Unnamed a) = 0
told_of (Named a) = 1

-- a reading with its flag
abbrev pub flagged_of : Reading → Flagged
flagged_of r = record { number = r.number; size = r.size; told = told_of r.held; answer = answer_held r.held }
