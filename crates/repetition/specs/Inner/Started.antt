-- A start and samples could have left a state. Definitions only.
use Rattle.std.specs.Prelude.{◌≡◌, List, ℕ, Float}
use Rattle.repetition.specs.declared.step.RepetitionTest.{RepetitionTest}
use Rattle.repetition.specs.History.{since, Possible, left}

pub record Started (st : RepetitionTest) : Type 0 where
  pub entropy : Float
  pub samples : List ℕ
  pub possible : Possible (since entropy samples)
  pub is : st ≡ left (since entropy samples)
