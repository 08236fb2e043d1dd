-- Calls in a row: a start, then a sample, a sample, .., each with the state that the call before it left. Definitions only.
use Rattle.std.specs.Prelude.{◌≡◌, List, [], ◌∷◌, ℕ, ◌≤◌, Float}
use Rattle.answer.specs.Numbers.{done}
use Rattle.repetition.specs.declared.step.RepetitionTest.{RepetitionTest}
use Rattle.repetition.specs.declared.step.Alarm.{Alarm}
use Rattle.repetition.specs.History.{cutoff_for, run}
use Rattle.repetition.specs.Repetition.{Sampled}

-- one sample after the other, from the state st to the state end
abbrev pub InRow : RepetitionTest → List ℕ → RepetitionTest → Type 0
InRow st [] end = end ≡ st
InRow st (x ∷ s) end = (r : Alarm) × (mid : RepetitionTest) × Sampled st x r mid × InRow mid s end

-- The answer r after the samples s of a test that was started with the entropy h: the alarm stands exactly when the run of equal samples that ends s has reached the cutoff.
pub record Exact (h : Float) (s : List ℕ) (r : Alarm) : Type 0 where
  pub answered : r.number ≡ done
  pub stands : cutoff_for h ≤ run s → r.alarm ≡ 1
  pub only_then : r.alarm ≡ 1 → cutoff_for h ≤ run s
