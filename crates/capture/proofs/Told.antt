-- What C gets of a bit that was read tells it, or the refusal with the place that it names: nothing of a result is lost. Assumes nothing.
use mathlib.Core.Path.{◌≡◌, refl}
use Prim.Native.Nat.{ℕ}
use Rattle.std.specs.Prelude.{Result, Ok, Err}
use Rattle.answer.proofs.Results.{held, held_kept}
use Rattle.answer.specs.declared.Refusal.{Refusal}
use Rattle.capture.specs.Reader.{bit_read_of}
use Rattle.capture.specs.declared.BitRead.{BitRead}

abbrev pub bit_in : BitRead → Result ℕ Refusal
bit_in b = held b.bit b.number b.place

pub bit_read_tells : (r : Result ℕ Refusal) → bit_in (bit_read_of r) ≡ r
bit_read_tells (Ok bit) = refl
bit_read_tells (Err e) = held_kept _ e
