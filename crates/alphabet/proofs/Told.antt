-- What C gets of an alphabet's size tells it, or the refusal: all but one that names a place, which no translator gives. Assumes nothing.
use mathlib.Core.Path.{◌≡◌, refl}
use Prim.Native.Nat.{ℕ}
use Rattle.std.specs.Prelude.{Result, Ok, Err}
use Rattle.answer.proofs.Results.{held, plain_kept}
use Rattle.answer.specs.Numbers.{too_wide}
use Rattle.answer.specs.Results.{number_in}
use Rattle.answer.specs.declared.Refusal.{Refusal}
use Rattle.alphabet.specs.Alphabet.{alphabet_in}
use Rattle.alphabet.specs.declared.Alphabet.{Alphabet}

abbrev pub size_in : Alphabet → Result ℕ Refusal
size_in a = held a.size a.number 0

pub alphabet_tells : (r : Result ℕ Refusal) → (number_in r ≡ too_wide → ⊥) → size_in (alphabet_in r) ≡ r
alphabet_tells (Ok size) h = refl
alphabet_tells (Err e) h = plain_kept _ e h
