-- The kind that a record is of and by which refusal it is not read or written, as the code has them, are those of the definitions. By the tests that these
-- make, and since no refusal has number 0 and the refusals here name no place. Assumes nothing.
use mathlib.Core.Path.{◌≡◌, refl, sym, ap, subst, ◌∙◌}
use mathlib.Core.Bool.{Bool, true, false, ◌||◌}
use mathlib.Core.List.{List}
use Prim.Native.Nat.{ℕ, ◌≤◌}
use native.Mathlib.Omega.{arith}
use lib.Dec.{eqb}
use lib.ListN.{length}
use Rattle.std.specs.Prelude.{Option, None, Some, Result, Ok, Err, MatchResult}
use Rattle.std.specs.Option.{ok_or}
use Rattle.std.specs.Result.{result_unwrap_or}
use Rattle.answer.specs.Numbers.{done, bad_frame, too_wide}
use Rattle.answer.specs.Refused.{refused}
use Rattle.answer.specs.Results.{number_of, refused_by}
use Rattle.answer.specs.declared.Answer.{Answer}
use Rattle.answer.specs.declared.Refusal.{Refusal}
use Rattle.answer.specs.declared.Refusal.TheVariants.{TooLong, TooShort, TooWide, Impossible, OutOfRange, NotRun, BadWidth, BadFrame, BadAnswer, BadState}
use Rattle.fields.proofs.Telling.{size_by}
use Rattle.fields.specs.Fields.{answer_in, answer_kind, answer_size, is_kind, named_kind, tells}
use Rattle.fields.specs.Kind.{kind_number}
use Rattle.fields.specs.declared.kind.Kind.{Kind}
use Rattle.fields.specs.declared.kind.Kind.TheVariants.{Unnamed, Named}
use Rattle.record.proofs.Cases.{by_tests, kind_long, read_by, refused_is, refused_size}
use Rattle.record.specs.Record.{Reading, extent_of, held_in, holds, kind_in, reading_of}
use Rattle.record.specs.Told.{extent_told, reading_told}
use Rattle.record.specs.Inner.Kinds.{kind_told}
use Rattle.recordable.specs.Recordable.{held_as, holdable}
use Rattle.recordable.specs.declared.Held.{Held}

-- ---- refusals
pub not_done : (e : Refusal) → number_of e ≡ done → ⊥
not_done TooLong h = omega arith
not_done TooShort h = omega arith
not_done (TooWide place) h = omega arith
not_done Impossible h = omega arith
not_done OutOfRange h = omega arith
not_done NotRun h = omega arith
not_done BadWidth h = omega arith
not_done BadFrame h = omega arith
not_done BadAnswer h = omega arith
not_done BadState h = omega arith

placeless : (e : Refusal) → (number_of e ≡ too_wide → ⊥) → refused_by e ≡ refused (number_of e)
placeless TooLong h = refl
placeless TooShort h = refl
placeless (TooWide place) h = absurd (h refl)
placeless Impossible h = refl
placeless OutOfRange h = refl
placeless NotRun h = refl
placeless BadWidth h = refl
placeless BadFrame h = refl
placeless BadAnswer h = refl
placeless BadState h = refl

-- ---- kinds
pub is_one : (kind : Kind) → is_kind (kind_number kind) ≡ true
unfolding is_kind
is_one Unnamed = refl
is_one Named = refl

-- a number that is no kind asks for as many bytes as the least record
other_size : (n : ℕ) → is_kind n ≡ false → answer_size (kind_number Unnamed) ≡ answer_size n
unfolding is_kind tells
other_size n h = size_by (kind_number Unnamed) refl ∙ sym (size_by n (by (eqb n answer_kind) (eqb n named_kind) h))
  where
    by : (a b : Bool) → (a || b) ≡ false → b ≡ false
    by false b e = e
    by true b e = absurd (cc e)

asked_size : (asked : Result Kind Refusal) (n : ℕ) →
    MatchResult asked (λ kind. kind_number kind ≡ n) (λ e. (e ≡ BadFrame) × (is_kind n ≡ false)) →
    answer_size (kind_number (result_unwrap_or asked Unnamed)) ≡ answer_size n
asked_size (Ok kind) n h = ap answer_size h
asked_size (Err e) n h = other_size n h.1

pub size_asked : (asked : Result Kind Refusal) (n : ℕ) {kind : Kind} {size : ℕ} →
    MatchResult asked (λ kind. kind_number kind ≡ n) (λ e. (e ≡ BadFrame) × (is_kind n ≡ false)) → kind ≡ result_unwrap_or asked Unnamed →
    size ≡ answer_size (kind_number kind) → size ≡ answer_size n
size_asked asked n h is told = told ∙ ap (λ (k : Kind). answer_size (kind_number k)) is ∙ asked_size asked n h

-- ---- the writer
pub may_write : (h : Held) (n : ℕ) (kind : Kind) → kind_number kind ≡ n → {t r b : Bool} → t ≡ tells (kind_number kind) → r ≡ holdable t h → r ≡ b →
    (is_kind n ≡ true) × (holds n h ≡ b)
may_write h n kind is p q e = (
  ap is_kind (sym is) ∙ is_one kind,
  ap (λ (k : ℕ). holdable (tells k) h) (sym is) ∙ ap (λ (x : Bool). holdable x h) (sym p) ∙ sym q ∙ e,
)

-- ---- the reader
pub no_kind : (found : Option Kind) {e : Refusal} → None ≡ found → Err e ≡ ok_or found BadFrame → (e ≡ BadFrame) × (kind_told found ≡ 0)
no_kind None n h = (cc h, refl)
no_kind (Some kind) n h = absurd (cc n)

wide_not : (kind : ℕ) (f r : Bool) (h : Held) → (read_by kind f r h).number ≡ too_wide → ⊥
wide_not kind true true h e = omega arith
wide_not kind true false h e = omega arith
wide_not kind false r h e = omega arith

module _ (bytes : List ℕ) where
  pub bad_kind : kind_in bytes ≡ 0 → (reading_of bytes).number ≡ bad_frame
  unfolding is_kind
  bad_kind e = ap (λ (r : Reading). r.number) (by_tests bytes {f = false} e refl refl refl)

  module _ (kind : Kind) (is : kind_number kind ≡ kind_in bytes) where
    pub long : answer_size (kind_number kind) ≤ length bytes
    long = subst (λ (n : ℕ). answer_size n ≤ length bytes) (sym is) (kind_long bytes (ap is_kind (sym is) ∙ is_one kind))

    -- what is read is what the test says
    pub tested : {t r : Bool} {a : Answer} → t ≡ tells (kind_number kind) → a ≡ answer_in (kind_number kind) bytes → r ≡ holdable t (held_as t a) →
        {b : Bool} → r ≡ b → reading_of bytes ≡ read_by (kind_number kind) true b (held_in (kind_number kind) bytes)
    unfolding held_in
    tested {t} {r} {a} p q h e =
        by_tests bytes (sym is) refl (is_one kind)
        (ap (λ (x : Bool). holdable x (held_as x (answer_in (kind_number kind) bytes))) (sym p)
        ∙ ap (λ (x : Answer). holdable t (held_as t x)) (sym q)
        ∙ sym h ∙ e)

  never_wide : (reading_of bytes).number ≡ too_wide → ⊥
  unfolding reading_of
  never_wide h = wide_not (kind_in bytes) (is_kind (kind_in bytes)) (holds (kind_in bytes) (held_in (kind_in bytes) bytes)) (held_in (kind_in bytes) bytes) h

  -- a refusal, and nothing else, is told
  module _ (e : Refusal) (said : number_of e ≡ (reading_of bytes).number) where
    pub extent_refused : extent_told (Err e) ≡ extent_of bytes
    extent_refused = cc (said, refused_size bytes (λ d. not_done e (said ∙ d)))

    pub reading_refused : reading_told (Err e) ≡ reading_of bytes
    reading_refused =
        let same = placeless e (λ w. never_wide (sym said ∙ w)) in
        cc (same, refused_is bytes said (not_done e))
