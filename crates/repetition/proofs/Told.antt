-- What C gets of a sample that was heard tells whether the alarm stands, or the refusal: all but one that names a place, which no sample gets. Assumes nothing.
use mathlib.Core.Path.{◌≡◌, refl}
use mathlib.Core.Bool.{Bool, true, false}
use lib.Dec.{eqb}
use Rattle.std.specs.Prelude.{Result, Ok, Err}
use Rattle.answer.proofs.Results.{held, plain_kept}
use Rattle.answer.specs.Numbers.{too_wide}
use Rattle.answer.specs.Results.{number_in}
use Rattle.answer.specs.declared.Refusal.{Refusal}
use Rattle.repetition.specs.Repetition.{alarm_of}
use Rattle.repetition.specs.declared.step.Alarm.{Alarm}

abbrev pub heard_in : Alarm → Result Bool Refusal
heard_in a = held (eqb a.alarm 1) a.number 0

pub alarm_tells : (r : Result Bool Refusal) → (number_in r ≡ too_wide → ⊥) → heard_in (alarm_of r) ≡ r
alarm_tells (Ok true) h = refl
alarm_tells (Ok false) h = refl
alarm_tells (Err e) h = plain_kept _ e h
