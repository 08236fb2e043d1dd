-- A refusal that may be missing, by its number and its place. Definitions only.
use Rattle.std.specs.Prelude.{ℕ, Option, None, Some}
use Rattle.answer.specs.Results.{number_of, place_of}
use Rattle.answer.specs.declared.Refusal.{Refusal}

-- a refusal by its number, and 0 where there is none
abbrev pub number_told : Option Refusal → ℕ
number_told None = 0
number_told (Some e) = number_of e

-- and its place
abbrev pub place_told : Option Refusal → ℕ
place_told None = 0
place_told (Some e) = place_of e
