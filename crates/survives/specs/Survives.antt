-- "every result that the estimators can return survives the trip": into a slice that is long enough it is written, as either kind, and what stands there
-- reads as it was, in kind 1 with who predicted absent. Definitions only.
use Rattle.std.specs.Prelude.{ℕ, ◌≤◌, ◌≡◌, true, List, length}
use Rattle.answer.specs.Numbers.{done}
use Rattle.answer.specs.declared.Answer.{Answer}
use Rattle.fields.specs.Fields.{answer_kind, answer_size, is_kind, named_kind}
use Rattle.record.specs.Record.{reading_of, unnamed, was_read, write_number, written_in}
use Rattle.recordable.specs.declared.Held.TheVariants.{Unnamed, Named}

pub record Survives (a : Answer) : Type 0 where
  pub written : (kind : ℕ) (out : List ℕ) → is_kind kind ≡ true → answer_size kind ≤ length out → write_number (Named a) kind out ≡ done
  pub again : (out : List ℕ) → answer_size named_kind ≤ length out → reading_of (written_in (Named a) named_kind out) ≡ was_read named_kind (Named a)
  pub without : (out : List ℕ) → answer_size answer_kind ≤ length out →
      reading_of (written_in (Named a) answer_kind out) ≡ was_read answer_kind (Unnamed (unnamed a))
