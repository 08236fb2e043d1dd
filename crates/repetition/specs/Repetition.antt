-- What a start and a sample answer, and the state that they leave. Definitions only.
use Rattle.std.specs.Prelude.{◌≡◌, Bool, cond, [], ◌∷◌, ◌++◌, ℕ, leb, Float, Result, Ok, Err}
use Rattle.answer.specs.Numbers.{done, out_of_range, bad_state}
use Rattle.answer.specs.Results.{number_of}
use Rattle.answer.specs.declared.Refusal.{Refusal}
use Rattle.cutoff.specs.Cutoff.{in_range}
use Rattle.repetition.specs.declared.step.RepetitionTest.{RepetitionTest}
use Rattle.repetition.specs.declared.step.Alarm.{Alarm}
use Rattle.repetition.specs.History.{History, never, since, Possible, cutoff_for, left, run}

-- "5 for an entropy under 1/64, above 8 or not a number, with the state unchanged"
unfoldable pub begin_number : Float → ℕ
begin_number h = cond (in_range h) done out_of_range

unfoldable pub begun : RepetitionTest → Float → RepetitionTest
begun st h = cond (in_range h) (left (since h [])) st

-- a history and one sample more; before a start none is heard
abbrev pub after : History → ℕ → History
after never x = never
after (since h s) x = since h (s ++ x ∷ [])

abbrev pub no_alarm : ℕ → Alarm
no_alarm n = record { number = n; alarm = 0 }

-- what C is told of whether the alarm stands, or of a refusal
abbrev pub alarm_of : Result Bool Refusal → Alarm
alarm_of (Ok stands) = record { number = done; alarm = cond stands 1 0 }
alarm_of (Err e) = no_alarm (number_of e)

-- what is answered to a history's last sample: "10 for a sample before a start"; else "the alarm stands after a sample exactly when the number of equal
-- samples ending there, since the start, has reached the cutoff"
abbrev pub answered : History → Alarm
answered never = no_alarm bad_state
answered (since h s) = record { number = done; alarm = cond (leb (cutoff_for h) (run s)) 1 0 }

-- The sample x finds the state st, is answered r, and leaves st', whichever history left st; where none could have left it, "10 .. for a state that no start
-- and samples could have left, also unchanged".
pub record Sampled (st : RepetitionTest) (x : ℕ) (r : Alarm) (st' : RepetitionTest) : Type 0 where
  pub known : (p : History) → Possible p → st ≡ left p → (r ≡ answered (after p x)) × (st' ≡ left (after p x))
  pub foreign : ((p : History) → Possible p → st ≡ left p → ⊥) → (r ≡ no_alarm bad_state) × (st' ≡ st)
