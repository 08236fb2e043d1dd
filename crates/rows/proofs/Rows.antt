-- What is read of records that stand one after the other, of whichever kinds: what each keeps at its place, and behind them the first bad one by its number
-- and byte. By induction on them, since behind a record each place is read as the place before it is without the record. Assumes nothing.
use mathlib.Core.Path.{◌≡◌, sym, ap, ◌∙◌}
use mathlib.Core.Bool.{cond}
use mathlib.Core.List.{List, [], ◌∷◌, ◌++◌, append_assoc, append-nil}
use Prim.Native.Nat.{ℕ, zero, suc, ◌+◌, ◌<◌}
use native.Mathlib.Nat.{not-suc-le-zero, le_of_suc-le-suc, le_refl}
use native.Mathlib.Omega.{arith}
use lib.Dec.{eqb}
use lib.ListN.{length, drop, get_or, length-append}
use lib.Seq.{drop-append-add, drop-append_seam}
use Rattle.answer.specs.Numbers.{done}
use Rattle.fields.specs.Fields.{answer_size}
use Rattle.record.specs.Record.{Reading, answer_held, extent_of, kept, reading_of, was_read}
use Rattle.record.proofs.Cases.{answer_length}
use Rattle.record.proofs.Trip.{written_reads}
use Rattle.rows.specs.Rows.{AllGood, Good, Item, bytes_of, good_among, record_at, records_of, row_of, start_of}
use Rattle.rows.proofs.Passing.{Passed, none_passed, ends_bad, ends_full}

-- how the record of an item is read
abbrev pub read_of : Item → Reading
read_of i = was_read i.kind (kept i.kind i.held)

reads : {i : Item} → Good i → (rest : List ℕ) → reading_of (bytes_of i ++ rest) ≡ read_of i
reads {i} g rest = written_reads i.kind i.held g.kind g.held g.doubles rest

item_length : (i : Item) → length (bytes_of i) ≡ answer_size i.kind
item_length i = answer_length i.kind (answer_held i.held)

-- ---- behind the record of an item
module _ {i : Item} (good : Good i) (bytes : List ℕ) where
  drop_record : {n : ℕ} (s : ℕ) → n ≡ length (bytes_of i) + s → drop n (bytes_of i ++ bytes) ≡ drop s bytes
  drop_record s e = ap (λ (k : ℕ). drop k (bytes_of i ++ bytes)) e ∙ drop-append-add (bytes_of i) bytes s

  start_behind : (place : ℕ) → start_of (bytes_of i ++ bytes) (suc place) ≡ length (bytes_of i) + start_of bytes place
  unfolding start_of
  start_behind zero = omega (arith, ap (λ (r : Reading). r.size) (reads good bytes), item_length i)
  start_behind (suc place) =
      let e = start_behind place in
      omega (arith, e, ap (λ (rest : List ℕ). (reading_of rest).size) (drop_record (start_of bytes place) e))

  at_front : record_at (bytes_of i ++ bytes) zero ≡ read_of i
  unfolding record_at start_of
  at_front = reads good bytes

  at_behind : (place : ℕ) → record_at (bytes_of i ++ bytes) (suc place) ≡ record_at bytes place
  unfolding record_at
  at_behind place = ap reading_of (drop_record (start_of bytes place) (start_behind place))

  good_behind : (n : ℕ) → good_among (bytes_of i ++ bytes) (suc n) ≡ suc (good_among bytes n)
  unfolding good_among
  good_behind zero = omega (arith, ap (λ (r : Reading). cond {A = ℕ} (eqb r.number done) 1 0) at_front)
  good_behind (suc n) = omega (arith, good_behind n, ap (λ (r : Reading). cond {A = ℕ} (eqb r.number done) 1 0) (at_behind n))

  passed_behind : {n at : ℕ} → Passed bytes n at → Passed (bytes_of i ++ bytes) (suc n) (length (bytes_of i) + at)
  passed_behind {n} {at} p =
      record {
        counted = good_behind n ∙ ap suc p.counted;
        starts = start_behind n ∙ ap (λ (k : ℕ). length (bytes_of i) + k) p.starts;
        within = omega (arith, p.within, length-append (bytes_of i) bytes);
        bytewise = omega (arith, p.bytewise, item_length i);
      }

-- ---- behind the records of some items
good_passed : (items : List Item) → AllGood items → (rest : List ℕ) → Passed (records_of items ++ rest) (length items) (length (records_of items))
unfolding AllGood records_of
good_passed [] g rest = none_passed rest
good_passed (i ∷ items) g rest =
    rw (append_assoc, length-append) (passed_behind g.0 (records_of items ++ rest) (good_passed items g.1 rest))

-- the record of every place; `other` is what `get_or` gives past the last one
pub row-holds : (items : List Item) → AllGood items → (rest : List ℕ) (place : ℕ) → place < length items → (other : Item) →
    record_at (records_of items ++ rest) place ≡ read_of (get_or items place other)
unfolding AllGood records_of
row-holds [] g rest place l other = absurd (not-suc-le-zero l)
row-holds (i ∷ items) g rest zero l other = rw append_assoc (at_front g.0 (records_of items ++ rest))
row-holds (i ∷ items) g rest (suc place) l other =
    rw append_assoc
    (at_behind g.0 (records_of items ++ rest) place ∙ row-holds items g.1 rest place (le_of_suc-le-suc l) other)

-- what is said of the whole row: there is nothing bad in it
pub rows_read : (items : List Item) → AllGood items → row_of (records_of items) ≡ record { good = length items; number = done; byte = length (records_of items) }
rows_read items g = ends_full (rw append-nil at (good_passed items g [])) (le_refl _)

-- the first bad one is named, whatever stands behind it
pub first_bad : (items : List Item) → AllGood items → (bad : List ℕ) → 0 < length bad → ((reading_of bad).number ≡ done → ⊥) →
    row_of (records_of items ++ bad) ≡ record { good = length items; number = (reading_of bad).number; byte = length (records_of items) }
first_bad items g bad l no_record =
    ends_bad (good_passed items g bad)
    (ap extent_of (sym (drop-append_seam (records_of items) bad)))
    no_record
    (omega (arith, length-append (records_of items) bad))

pub no_records : row_of [] ≡ record { good = 0; number = done; byte = 0 }
unfolding AllGood records_of
no_records = rows_read [] tt
