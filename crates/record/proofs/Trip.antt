-- What was written is read again as it was, whatever follows it, without who predicted where the kind does not tell it, and a record that was read is written
-- again byte for byte. By the laws of the envelope and what a record keeps. Assumes nothing.
use mathlib.Core.Path.{◌≡◌, refl, sym, ap, ◌∙◌}
use mathlib.Core.Bool.{Bool, true, false, cond}
use mathlib.Core.List.{List, ◌++◌}
use Prim.Native.Nat.{ℕ, ◌≤◌}
use native.Mathlib.Omega.{arith}
use borrow.Author.Tests.{le-ltb}
use lib.ListN.{length, drop, take}
use Rattle.answer.specs.Numbers.{done, bad_answer}
use Rattle.answer.specs.declared.Answer.{Answer}
use Rattle.envelope.proofs.Envelope.{framed_start, record-again, record_framed, values_room, values_start}
use Rattle.envelope.specs.Envelope.{body_start, put_at_start}
use Rattle.envelope.specs.Little.{Bytes}
use Rattle.fields.proofs.Telling.{kind_small, short}
use Rattle.fields.specs.Fields.{answer_in, answer_kind, answer_of, answer_record, answer_size, fields_of, is_kind, named_kind, tells}
use Rattle.record.specs.Record.{Reading, Doubles, answer_held, framed_as, held_in, holds, kept, kind_in, reading_of, was_read, write_number, written_in}
use Rattle.recordable.specs.Recordable.{holdable, recordable}
use Rattle.recordable.specs.declared.Held.{Held}
use Rattle.recordable.specs.declared.Held.TheVariants.{Unnamed, Named}
use Rattle.recordable.proofs.Bounds.{recordable_bounds}
use Rattle.record.proofs.Cases.{
  by_tests,
  framed_kind,
  held,
  kind_framed,
  kind_long,
  read-holds,
  read_long,
  read_size,
  reading_is,
  reading_tests,
  says_refused,
  write_by_lem,
  write-holds,
  write_kind,
  written_is,
}
use Rattle.record.proofs.Kept.{held-again, held_answer, held_recordable, kept-holds, numbers-again}

-- ---- written, then read
pub written_reads : (kind : ℕ) (h : Held) → is_kind kind ≡ true → holds kind h ≡ true → Doubles (answer_held h) → (rest : List ℕ) →
    reading_of (answer_record kind (answer_held h) ++ rest) ≡ was_read kind (kept kind h)
written_reads kind h k e d rest =
    let bytes = answer_record kind (answer_held h) ++ rest in
    let frame = record_framed kind (fields_of kind) (answer_held h) rest (kind_small kind k) (short kind) in
    by_tests bytes (framed_kind bytes kind k frame) (held-again kind h e d rest) k (kept-holds kind h e)

-- ---- read, then written
pub read_writes : (bytes : List ℕ) → Bytes bytes → (reading_of bytes).number ≡ done →
    answer_record (kind_in bytes) (answer_held (reading_of bytes).held) ≡ take (reading_of bytes).size bytes
read_writes bytes b h =
    let kind = kind_in bytes in
    let a = answer_in kind bytes in
    let t = reading_tests bytes h in
    let long : answer_size kind ≤ length bytes = read_long bytes h in
    let room = values_room (fields_of kind) body_start bytes b (omega arith) in
    let good : recordable a ≡ true = ap recordable (sym (held_answer bytes kind)) ∙ held_recordable (tells kind) (held bytes) t.1 in
    let same : answer_held (reading_of bytes).held ≡ a = ap (λ (r : Reading). answer_held r.held) (reading_is bytes h) ∙ held_answer bytes kind in
    ap (answer_record kind) same
    ∙ record-again kind (fields_of kind) a bytes (kind_framed bytes t.0) b (numbers-again bytes kind room (recordable_bounds a good).floats)
    ∙ ap (λ (n : ℕ). take n bytes) (sym (read_size bytes h))

-- ---- what follows a record is not looked at
module _ (xs ys : List ℕ) where
  held_start : (kind : ℕ) → answer_size kind ≤ length xs → held_in kind (xs ++ ys) ≡ held_in kind xs
  unfolding held_in
  held_start kind l =
      ap (λ (a : Answer). cond (tells kind) (Named a) (Unnamed a)) (ap answer_of (values_start (fields_of kind) body_start xs ys (omega arith)))

  -- where the kind is read alike, so is all else
  same_kind : kind_in (xs ++ ys) ≡ kind_in xs → reading_of (xs ++ ys) ≡ reading_of xs
  same_kind e = by (is_kind (kind_in xs)) refl
    where
      kind : ℕ
      kind = kind_in xs

      by : (b : Bool) → is_kind kind ≡ b → reading_of (xs ++ ys) ≡ reading_of xs
      by true k =
          let same = held_start kind (kind_long xs k) in
          by_tests (xs ++ ys) e same k refl ∙ sym (by_tests xs refl refl k refl)
      by false k = by_tests (xs ++ ys) e refl k refl ∙ sym (by_tests xs refl refl k refl)

  -- behind a whole record
  pub reading_start : is_kind (kind_in xs) ≡ true → reading_of (xs ++ ys) ≡ reading_of xs
  reading_start k =
      let kind = kind_in xs in
      let frame = framed_start kind (fields_of kind) xs ys (kind_long xs k) ∙ kind_framed xs k in
      same_kind (framed_kind (xs ++ ys) kind k frame)

  -- and behind as many bytes as a record of any kind has, whatever they are
  pub reading_long : ((kind : ℕ) → is_kind kind ≡ true → answer_size kind ≤ length xs) → reading_of (xs ++ ys) ≡ reading_of xs
  unfolding kind_in is_kind
  reading_long l =
      let first : framed_as answer_kind (xs ++ ys) ≡ framed_as answer_kind xs = framed_start answer_kind (fields_of answer_kind) xs ys (l answer_kind refl) in
      let second : framed_as named_kind (xs ++ ys) ≡ framed_as named_kind xs = framed_start named_kind (fields_of named_kind) xs ys (l named_kind refl) in
      same_kind (cc (first, second))

-- ---- the same in a slice that the writer is lent
pub written_reads_in : (h : Held) (kind : ℕ) (out : List ℕ) → write_number h kind out ≡ done → Doubles (answer_held h) →
    reading_of (written_in h kind out) ≡ was_read kind (kept kind h)
written_reads_in h kind out w d =
    ap reading_of (written_is h kind out w)
    ∙ written_reads kind h (write_kind h kind out w) (write-holds h kind out w) d (drop (length (answer_record kind (answer_held h))) out)

pub writes_done : (h : Held) (kind : ℕ) (out : List ℕ) → is_kind kind ≡ true → holds kind h ≡ true → answer_size kind ≤ length out →
    write_number h kind out ≡ done
writes_done h kind out k e l = write_by_lem h kind out (le-ltb (length out) (answer_size kind) l) k e

pub read_writes_in : (bytes out : List ℕ) → Bytes bytes → (reading_of bytes).number ≡ done → (reading_of bytes).size ≤ length out →
    (write_number (reading_of bytes).held (kind_in bytes) out ≡ done) ×
    (written_in (reading_of bytes).held (kind_in bytes) out ≡ put_at_start (take (reading_of bytes).size bytes) out)
read_writes_in bytes out b h l =
    let r = reading_of bytes in
    let w = writes_done r.held (kind_in bytes) out (reading_tests bytes h).0 (read-holds bytes h) (omega (arith, read_size bytes h)) in
    (w, written_is r.held (kind_in bytes) out w ∙ ap (λ (s : List ℕ). put_at_start s out) (read_writes bytes b h))

-- ---- "absent ones asked for": what was read from a kind that does not tell who predicted is refused in one that does, and nothing is written
pub absent_refused : (bytes out : List ℕ) (kind : ℕ) → (reading_of bytes).number ≡ done → tells (kind_in bytes) ≡ false → is_kind kind ≡ true →
    tells kind ≡ true → answer_size kind ≤ length out →
    (write_number (reading_of bytes).held kind out ≡ bad_answer) × (written_in (reading_of bytes).held kind out ≡ out)
unfolding held_in holdable
absent_refused bytes out kind r n k t l =
    let a = answer_in (kind_in bytes) bytes in
    let absent : (reading_of bytes).held ≡ Unnamed a = ap (λ (x : Reading). x.held) (reading_is bytes r) ∙ ap (λ (b : Bool). cond b (Named a) (Unnamed a)) n in
    let refused : holds kind (reading_of bytes).held ≡ false = ap (λ (x : Held). holds kind x) absent ∙ ap (λ (b : Bool). holdable b (Unnamed a)) t in
    let w = write_by_lem (reading_of bytes).held kind out (le-ltb (length out) (answer_size kind) l) k refused in
    (w, sym (says_refused (reading_of bytes).held kind out bad_answer (sym w) (λ e. omega arith)).1)
