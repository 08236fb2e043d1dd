-- What is known where the first places of a row have good records: how many they are, and where the next one starts; past a bad one nothing is read.
-- By induction on the places, since a good record takes a byte at least and a bad one takes none. Assumes nothing.
use mathlib.Core.Path.{◌≡◌, refl, sym, ap, ◌∙◌}
use mathlib.Core.Bool.{Bool, cond}
use mathlib.Core.List.{List}
use Prim.Native.Nat.{ℕ, zero, suc, ◌+◌, ◌-◌, ◌≤◌, ◌<◌}
use native.Mathlib.Nat.{add-zero, add-suc}
use native.Mathlib.Numerals.{add-one}
use native.Mathlib.Omega.{arith}
use borrow.Author.Tests.{eq-eqb, ne_eqb, le-leb, lt-leb}
use lib.Dec.{leb}
use lib.ListN.{length, take, drop, length-drop}
use lib.Seq.{take_all}
use Rattle.answer.specs.Numbers.{done}
use Rattle.fields.specs.Fields.{answer_size}
use Rattle.record.specs.Record.{Extent, Reading, extent_of, kind_in, reading_of}
use Rattle.record.proofs.Cases.{read_long, read_size, refused_size}
use Rattle.rows.specs.Rows.{good_among, good_records, record_at, row_of, start_of}

-- the first `good` places have good records, and the next one starts at byte `at`
pub record Passed (bytes : List ℕ) (good at : ℕ) : Type 0 where
  pub counted : good_among bytes good ≡ good
  pub starts : start_of bytes good ≡ at
  pub within : at ≤ length bytes
  pub bytewise : good ≤ at

pub none_passed : (bytes : List ℕ) → Passed bytes 0 0
unfolding good_among start_of
none_passed bytes = record { counted = refl; starts = refl; within = omega arith; bytewise = omega arith }

-- the record that starts there
next_record : {bytes : List ℕ} {good at : ℕ} → Passed bytes good at → record_at bytes good ≡ reading_of (drop at bytes)
unfolding record_at
next_record {bytes} p = ap (λ (n : ℕ). reading_of (drop n bytes)) p.starts

-- a slice's rest, as the code has it
pub rest_is : (bytes : List ℕ) (at : ℕ) → take (length bytes - at) (drop at bytes) ≡ drop at bytes
rest_is bytes at = take_all (length bytes - at) (drop at bytes) (omega (arith, length-drop at bytes))

pub slice_read : {bytes : List ℕ} {good at : ℕ} → Passed bytes good at → {e : Extent} → e ≡ extent_of (take (length bytes - at) (drop at bytes)) →
    e ≡ extent_of (drop at bytes)
slice_read {bytes} {good} {at} p is = is ∙ ap extent_of (rest_is bytes at)

numbered : {r s : Reading} → r ≡ s → s.number ≡ r.number
numbered e = sym (ap (λ (r : Reading). r.number) e)

-- one more good record
module _ {bytes : List ℕ} {good at : ℕ} (p : Passed bytes good at) {e : Extent} (is : e ≡ extent_of (drop at bytes)) (h : e.number ≡ done) where
  read : (reading_of (drop at bytes)).number ≡ done
  read = sym (ap (λ (x : Extent). x.number) is) ∙ h

  some_bytes : let size = answer_size (kind_in (drop at bytes)) in (e.size ≡ size) × (at + size ≤ length bytes)
  some_bytes = (
    ap (λ (x : Extent). x.size) is ∙ read_size (drop at bytes) read,
    omega (arith, read_long (drop at bytes) read, length-drop at bytes, p.within),
  )

  one_counted : good_among bytes (suc good) ≡ suc good
  unfolding good_among
  one_counted =
      let done-there : (record_at bytes good).number ≡ done = sym (numbered (next_record p)) ∙ read in
      let one = ap (λ (b : Bool). cond {A = ℕ} b 1 0) (eq-eqb (record_at bytes good).number done done-there) in
      omega (arith, p.counted, one)

  one_started : start_of bytes (suc good) ≡ at + e.size
  unfolding start_of
  one_started = ap (λ (n : ℕ). n + (reading_of (drop n bytes)).size) p.starts ∙ ap (λ (x : Extent). at + x.size) (sym is)

  pub one_passed : Passed bytes (good + 1) (at + e.size)
  one_passed = record {
    counted = rw add-one one_counted;
    starts = rw add-one one_started;
    within = omega (arith, some_bytes);
    bytewise = omega (arith, some_bytes, p.bytewise);
  }

  pub fewer_left : length bytes - (at + e.size) < length bytes - at
  fewer_left = omega (arith, some_bytes)

-- nothing is read past a bad one
module _ (bytes : List ℕ) (place : ℕ) (bad : (record_at bytes place).number ≡ done → ⊥) where
  pub stays : (d : ℕ) → start_of bytes (place + d) ≡ start_of bytes place
  unfolding start_of record_at
  stays zero = ap (start_of bytes) (add-zero place)
  stays (suc d) =
      let e = stays d in
      let none = ap (λ (at : ℕ). (reading_of (drop at bytes)).size) e ∙ refused_size (drop (start_of bytes place) bytes) bad in
      ap (start_of bytes) (add-suc place d) ∙ omega (arith, e, none)

  pub same_record : (d : ℕ) → record_at bytes (place + d) ≡ record_at bytes place
  unfolding record_at
  same_record d = ap (λ (at : ℕ). reading_of (drop at bytes)) (stays d)

  pub good_stops : (d : ℕ) → good_among bytes (place + d) ≡ good_among bytes place
  unfolding good_among
  good_stops zero = ap (good_among bytes) (add-zero place)
  good_stops (suc d) =
      let none = ne_eqb (record_at bytes (place + d)).number done (λ h. bad (numbered (same_record d) ∙ h)) in
      ap (good_among bytes) (add-suc place d) ∙ omega (arith, good_stops d, ap (λ (b : Bool). cond {A = ℕ} b 1 0) none)

-- where the row ends: at a bad record, or at the end of the bytes
module _ {bytes : List ℕ} {good at : ℕ} (p : Passed bytes good at) where
  pub all_good : ((reading_of (drop at bytes)).number ≡ done → ⊥) → good_records bytes ≡ good
  all_good bad =
      let d : length bytes ≡ good + (length bytes - good) = omega (arith, p.within, p.bytewise) in
      ap (good_among bytes) d ∙ good_stops bytes good (λ h. bad (numbered (next_record p) ∙ h)) (length bytes - good) ∙ p.counted

  ends : ((reading_of (drop at bytes)).number ≡ done → ⊥) →
      row_of bytes ≡ record { good = good; number = cond (leb (length bytes) at) done (reading_of (drop at bytes)).number; byte = at }
  unfolding row_of record_at
  ends bad = cc (all_good bad, p.starts)

  pub ends_bad : {e : Extent} → e ≡ extent_of (drop at bytes) → (e.number ≡ done → ⊥) → at < length bytes →
      row_of bytes ≡ record { good = good; number = e.number; byte = at }
  ends_bad is bad l = cc (ends (λ h. bad (ap (λ (x : Extent). x.number) is ∙ h)), lt-leb (length bytes) at l, is)

  pub ends_full : length bytes ≤ at → row_of bytes ≡ record { good = good; number = done; byte = at }
  ends_full l = cc (ends (λ h. omega (arith, read_long (drop at bytes) h, length-drop at bytes)), le-leb (length bytes) at l)

  -- where the record of a place starts that is reached, or that stands behind a bad record
  pub reached : {place : ℕ} → good ≡ place → at ≡ start_of bytes place
  reached g = sym (ap (start_of bytes) (sym g) ∙ p.starts)

  pub not_passed : {place : ℕ} {e : Extent} → e ≡ extent_of (drop at bytes) → (e.number ≡ done → ⊥) → good ≤ place → at ≡ start_of bytes place
  not_passed {place} is bad l =
      let d : place ≡ good + (place - good) = omega arith in
      let there : (record_at bytes good).number ≡ done → ⊥ = λ h. bad (ap (λ (x : Extent). x.number) is ∙ numbered (next_record p) ∙ h) in
      sym (ap (start_of bytes) d ∙ stays bytes good there (place - good) ∙ p.starts)
