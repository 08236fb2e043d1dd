-- The windows' verdicts as the race has them. Definitions only.
use Rattle.std.specs.Prelude.{cond, List, [], ◌∷◌, ℕ, Option, Some, None, eqb}
use Rattle.verdicts.specs.Inner.Told.{digit}
use Rattle.verdicts.specs.declared.Masks.{Masks}

-- what comes, for a race that is told verdicts and no symbols
abbrev pub right : ℕ
right = 1

-- what window j says then: `right` where it was right, 0 where it was wrong, and nothing where it does not take part
abbrev pub number_at : Masks → ℕ → Option ℕ
number_at masks j = cond (eqb (digit masks.speaking j) 0) None (Some (digit masks.rights j))

abbrev pub numbers : Masks → List (Option ℕ)
numbers masks = number_at masks 0 ∷ number_at masks 1 ∷ number_at masks 2 ∷ number_at masks 3 ∷ []
