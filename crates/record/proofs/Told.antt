-- What C gets of a reading tells it: nothing of a result is lost. What it gets of a writer, or of how long a record is, tells every result but a refusal that
-- names a place, which none of the two gives. Assumes nothing.
use mathlib.Core.Path.{◌≡◌, refl}
use Prim.Native.Nat.{ℕ}
use Rattle.std.specs.Prelude.{Result, Ok, Err}
use Rattle.answer.proofs.Results.{held, held_kept, plain_kept}
use Rattle.answer.specs.Numbers.{too_wide}
use Rattle.answer.specs.Results.{number_in}
use Rattle.answer.specs.declared.Refusal.{Refusal}
use Rattle.record.specs.Record.{Extent, Reading, answer_held}
use Rattle.record.specs.Told.{extent_told, reading_told, written_told}
use Rattle.record.specs.declared.Reading.{Reading as Record}
use Rattle.record.specs.declared.Written.{Written}

abbrev pub reading_in : Reading → Result Record Refusal
reading_in r = held (record { size = r.size; held = r.held }) r.number (answer_held r.held).place

pub reading_tells : (r : Result Record Refusal) → reading_in (reading_told r) ≡ r
reading_tells (Ok r) = refl
reading_tells (Err e) = held_kept _ e

abbrev pub size_in : Written → Result ℕ Refusal
size_in w = held w.size w.number 0

pub written_tells : (r : Result ℕ Refusal) → (number_in r ≡ too_wide → ⊥) → size_in (written_told r) ≡ r
written_tells (Ok size) h = refl
written_tells (Err e) h = plain_kept _ e h

abbrev pub extent_in : Extent → Result ℕ Refusal
extent_in e = held e.size e.number 0

pub extent_tells : (r : Result ℕ Refusal) → (number_in r ≡ too_wide → ⊥) → extent_in (extent_told r) ≡ r
extent_tells (Ok size) h = refl
extent_tells (Err e) h = plain_kept _ e h
