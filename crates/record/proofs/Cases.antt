-- Which kind of record stands at the start, what a reading is by its two tests, and what the writer does by its three. Assumes nothing.
use mathlib.Core.Path.{◌≡◌, refl, sym, ap, ◌∙◌}
use mathlib.Core.Bool.{Bool, true, false, cond, false≢true}
use mathlib.Core.List.{List}
use mathlib.Core.Logic.{◌⊎◌, inl, inr}
use Prim.Native.Nat.{ℕ, ◌≤◌}
use native.Mathlib.Omega.{arith}
use borrow.Author.Tests.{eq-eqb, ne_eqb, ltb-false}
use lib.Dec.{ltb}
use lib.ListN.{length}
use Rattle.answer.specs.Numbers.{done, too_short, bad_frame, bad_answer}
use Rattle.answer.specs.declared.Answer.{Answer}
use Rattle.envelope.specs.Envelope.{following, put_at_start}
use Rattle.envelope.proofs.Envelope.{framed_is, framed_long, record_length}
use Rattle.fields.specs.Fields.{answer_kind, answer_record, answer_size, fields_of, is_kind, named_kind}
use Rattle.fields.proofs.Telling.{kind_is}
use Rattle.recordable.specs.declared.Held.{Held}
use Rattle.record.specs.Record.{Extent, Reading, answer_held, extent_of, framed_as, held_in, holds, kind_in, not_read, reading_of, was_read, write_number, written_in, written_of}

-- how many bytes a record takes
pub answer_length : (kind : ℕ) (a : Answer) → length (answer_record kind a) ≡ answer_size kind
answer_length kind a = record_length kind (fields_of kind) a

-- ---- the kind of the record at the start
module _ (bytes : List ℕ) where
  -- a record is of one kind only
  not_another : (kind other : ℕ) → (kind ≡ other → ⊥) → framed_as kind bytes ≡ true → framed_as other bytes ≡ false
  not_another kind other differ f = by (framed_as other bytes) refl
    where
      by : (b : Bool) → framed_as other bytes ≡ b → b ≡ false
      by true e =
          absurd (differ (sym (framed_is kind (following (fields_of kind)) bytes f).named
          ∙ (framed_is other (following (fields_of other)) bytes e).named))
      by false e = refl

  pub framed_kind : (kind : ℕ) → is_kind kind ≡ true → framed_as kind bytes ≡ true → kind_in bytes ≡ kind
  unfolding kind_in
  framed_kind kind k f = by (kind_is kind k)
    where
      by : (kind ≡ answer_kind) ⊎ (kind ≡ named_kind) → kind_in bytes ≡ kind
      by (inl e) = let first : framed_as answer_kind bytes ≡ true = rw e at f in simp first (sym e)
      by (inr e) =
          let second : framed_as named_kind bytes ≡ true = rw e at f in
          simp (not_another named_kind answer_kind (λ d. omega arith) second, second) (sym e)

  pub kind_framed : is_kind (kind_in bytes) ≡ true → framed_as (kind_in bytes) bytes ≡ true
  unfolding kind_in is_kind
  kind_framed h = by (framed_as answer_kind bytes) (framed_as named_kind bytes) refl refl h
    where
      by : (b c : Bool) → framed_as answer_kind bytes ≡ b → framed_as named_kind bytes ≡ c →
          is_kind (cond b answer_kind (cond c named_kind 0)) ≡ true → framed_as (cond b answer_kind (cond c named_kind 0)) bytes ≡ true
      by true c p q h = p
      by false true p q h = q
      by false false p q h = absurd (false≢true h)

  pub kind_long : is_kind (kind_in bytes) ≡ true → answer_size (kind_in bytes) ≤ length bytes
  kind_long h = framed_long (kind_in bytes) (following (fields_of (kind_in bytes))) bytes (kind_framed h)

-- ---- the reader
abbrev pub read_by : ℕ → Bool → Bool → Held → Reading
read_by kind f r h = cond f (cond r (was_read kind h) (not_read bad_answer)) (not_read bad_frame)

tests : (kind : ℕ) (f r : Bool) (h : Held) → (read_by kind f r h).number ≡ done → (f ≡ true) × (r ≡ true)
tests kind true true h e = (refl, refl)
tests kind true false h e = absurd (omega arith)
tests kind false r h e = absurd (omega arith)

no_size : (kind : ℕ) (f r : Bool) (h : Held) → ((read_by kind f r h).number ≡ done → ⊥) → (read_by kind f r h).size ≡ 0
no_size kind true true h e = absurd (e refl)
no_size kind true false h e = refl
no_size kind false r h e = refl

is_refusal : (kind : ℕ) (f r : Bool) (h : Held) → ((read_by kind f r h).number ≡ done → ⊥) → read_by kind f r h ≡ not_read (read_by kind f r h).number
is_refusal kind true true h e = absurd (e refl)
is_refusal kind true false h e = refl
is_refusal kind false r h e = refl

-- all but what was read
abbrev extent : ℕ → ℕ → Extent
extent n s = record { number = n; size = s }

abbrev pub extent_by : ℕ → Bool → Bool → Extent
extent_by kind f r = cond f (cond r (extent done (answer_size kind)) (extent bad_answer 0)) (extent bad_frame 0)

extents : (kind : ℕ) (f r : Bool) (h : Held) → extent (read_by kind f r h).number (read_by kind f r h).size ≡ extent_by kind f r
extents kind true true h = refl
extents kind true false h = refl
extents kind false r h = refl

module _ (bytes : List ℕ) where
  pub by_tests : {kind : ℕ} {f r : Bool} {h : Held} → kind_in bytes ≡ kind → held_in kind bytes ≡ h → is_kind kind ≡ f → holds kind h ≡ r →
      reading_of bytes ≡ read_by kind f r h
  unfolding reading_of
  by_tests {kind} {f} {r} {h} is has p q =
      ap (λ (k : ℕ). read_by k (is_kind k) (holds k (held_in k bytes)) (held_in k bytes)) is
      ∙ ap (λ (x : Held). read_by kind (is_kind kind) (holds kind x) x) has
      ∙ ap (λ (b : Bool). read_by kind b (holds kind h) h) p
      ∙ ap (λ (b : Bool). read_by kind f b h) q

  -- what the record at the start holds
  abbrev pub held : Held
  held = held_in (kind_in bytes) bytes

  pub reading_tests : (reading_of bytes).number ≡ done → (is_kind (kind_in bytes) ≡ true) × (holds (kind_in bytes) held ≡ true)
  unfolding reading_of
  reading_tests h = tests (kind_in bytes) (is_kind (kind_in bytes)) (holds (kind_in bytes) held) held h

  pub reading_is : (reading_of bytes).number ≡ done → reading_of bytes ≡ was_read (kind_in bytes) held
  reading_is h = let t = reading_tests h in by_tests refl refl t.0 t.1

  pub read-holds : (reading_of bytes).number ≡ done → holds (kind_in bytes) (reading_of bytes).held ≡ true
  read-holds h = ap (λ (r : Reading). holds (kind_in bytes) r.held) (reading_is h) ∙ (reading_tests h).1

  pub read_size : (reading_of bytes).number ≡ done → (reading_of bytes).size ≡ answer_size (kind_in bytes)
  read_size h = ap (λ (r : Reading). r.size) (reading_is h)

  pub read_long : (reading_of bytes).number ≡ done → answer_size (kind_in bytes) ≤ length bytes
  read_long h = kind_long bytes (reading_tests h).0

  pub extent_by_lem : {kind : ℕ} {f r : Bool} → kind_in bytes ≡ kind → is_kind kind ≡ f → holds kind (held_in kind bytes) ≡ r →
      extent_of bytes ≡ extent_by kind f r
  extent_by_lem {kind} {f} {r} is p q =
      ap (λ (t : Reading). extent t.number t.size) (by_tests is refl p q) ∙ extents kind f r (held_in kind bytes)

  pub refused_is : {n : ℕ} → n ≡ (reading_of bytes).number → (n ≡ done → ⊥) → reading_of bytes ≡ not_read n
  unfolding reading_of
  refused_is {n} e h =
      is_refusal (kind_in bytes) (is_kind (kind_in bytes)) (holds (kind_in bytes) held) held (λ d. h (e ∙ d)) ∙ ap not_read (sym e)

  pub refused_size : ((reading_of bytes).number ≡ done → ⊥) → (reading_of bytes).size ≡ 0
  unfolding reading_of
  refused_size h = no_size (kind_in bytes) (is_kind (kind_in bytes)) (holds (kind_in bytes) held) held h

-- ---- the writer
abbrev write_by : Bool → Bool → Bool → ℕ
write_by s k r = cond s too_short (cond k (cond r done bad_answer) bad_frame)

writes : (s k r : Bool) → write_by s k r ≡ done → (s ≡ false) × ((k ≡ true) × (r ≡ true))
writes true k r h = absurd (omega arith)
writes false true true h = (refl, (refl, refl))
writes false true false h = absurd (omega arith)
writes false false r h = absurd (omega arith)

module _ (h : Held) (kind : ℕ) (out : List ℕ) where
  pub write_by_lem : {s k r : Bool} → ltb (length out) (answer_size kind) ≡ s → is_kind kind ≡ k → holds kind h ≡ r → write_number h kind out ≡ write_by s k r
  unfolding write_number
  write_by_lem {s} {k} {r} p q t =
      ap (λ (b : Bool). write_by b (is_kind kind) (holds kind h)) p
      ∙ ap (λ (b : Bool). write_by s b (holds kind h)) q
      ∙ ap (λ (b : Bool). write_by s k b) t

  write_tests : write_number h kind out ≡ done → (ltb (length out) (answer_size kind) ≡ false) × ((is_kind kind ≡ true) × (holds kind h ≡ true))
  unfolding write_number
  write_tests d = writes (ltb (length out) (answer_size kind)) (is_kind kind) (holds kind h) d

  pub write_long : write_number h kind out ≡ done → answer_size kind ≤ length out
  write_long d = ltb-false (length out) (answer_size kind) (write_tests d).0

  pub write_kind : write_number h kind out ≡ done → is_kind kind ≡ true
  write_kind d = (write_tests d).1.0

  pub write-holds : write_number h kind out ≡ done → holds kind h ≡ true
  write-holds d = (write_tests d).1.1

  pub written_is : write_number h kind out ≡ done → written_in h kind out ≡ put_at_start (answer_record kind (answer_held h)) out
  unfolding written_in
  written_is d = ap (λ (b : Bool). cond b (put_at_start (answer_record kind (answer_held h)) out) out) (eq-eqb (write_number h kind out) done d)

  pub says_written : write_number h kind out ≡ done → written_of h kind out ≡ record { number = done; size = answer_size kind }
  unfolding written_of
  says_written d = simp d

  pub says_refused : (n : ℕ) → n ≡ write_number h kind out → (n ≡ done → ⊥) →
      (record { number = n; size = 0 } ≡ written_of h kind out) × (out ≡ written_in h kind out)
  unfolding written_of written_in
  says_refused n e d = (simp (sym e, ne_eqb n done d), simp (sym e, ne_eqb n done d))
