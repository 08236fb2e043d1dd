-- The first refusal of four is told as the first number that is not 0, since no refusal has number 0; its place goes with it. Assumes nothing.
use mathlib.Core.Path.{◌≡◌, refl}
use mathlib.Core.Bool.{cond, false}
use Prim.Native.Nat.{ℕ}
use lib.Dec.{eqb}
use Rattle.std.specs.Prelude.{Option, None, Some}
use Rattle.std.specs.Option.{option_or}
use Rattle.answer.specs.Results.{number_of}
use Rattle.answer.specs.declared.Refusal.{Refusal}
use Rattle.answer.specs.declared.Refusal.TheVariants.{TooLong, TooShort, TooWide, Impossible, OutOfRange, NotRun, BadWidth, BadFrame, BadAnswer, BadState}
use Rattle.board.specs.Board.{first_of}
use Rattle.board.specs.Inner.Told.{number_told, place_told}

is_refused : (e : Refusal) → eqb (number_of e) 0 ≡ false
is_refused TooLong = refl
is_refused TooShort = refl
is_refused (TooWide place) = refl
is_refused Impossible = refl
is_refused OutOfRange = refl
is_refused NotRun = refl
is_refused BadWidth = refl
is_refused BadFrame = refl
is_refused BadAnswer = refl
is_refused BadState = refl

abbrev first_some : Option Refusal → Option Refusal → Option Refusal → Option Refusal → Option Refusal
first_some p q r s = option_or (option_or (option_or p q) r) s

pub first_number : (p q r s : Option Refusal) →
    number_told (first_some p q r s) ≡ first_of (number_told p) (first_of (number_told q) (first_of (number_told r) (number_told s)))
first_number None None None s = refl
first_number None None (Some e) s = simp (is_refused e)
first_number None (Some e) r s = simp (is_refused e)
first_number (Some e) q r s = simp (is_refused e)

-- the place of the first number of two that is not 0
abbrev pub with_number : ℕ → ℕ → ℕ → ℕ
with_number n place rest = cond (eqb n 0) rest place

pub first_place : (p q r s : Option Refusal) →
    place_told (first_some p q r s) ≡
    with_number (number_told p) (place_told p)
    (with_number (number_told q) (place_told q) (with_number (number_told r) (place_told r) (place_told s)))
first_place None None None s = refl
first_place None None (Some e) s = simp (is_refused e)
first_place None (Some e) r s = simp (is_refused e)
first_place (Some e) q r s = simp (is_refused e)
