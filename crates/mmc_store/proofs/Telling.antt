-- What a level says of a place, as the race holds it and hears it: its predicted symbol where it and every shorter level have the context, and
-- silence where one has not. Assumes nothing.
use Prim.Native.Nat.{ℕ, suc, ◌≤◌}
use mathlib.Core.Path.{◌≡◌, refl}
use mathlib.Core.Bool.{Bool, true, false}
use mathlib.Core.List.{List}
use Rattle.std.specs.Prelude.{Some, None}
use Rattle.race.specs.Race.{Guess, says, silent}
use Rattle.race.specs.Inner.Raced.{heard}
use Rattle.mmc_store.specs.Inner.Answers.{spoken}
use Rattle.mmc_store.specs.Counts.{present, predicted}
use Rattle.mmc_store.specs.Levels.{found, level, guess}
use Rattle.mmc_store.proofs.Same.{and_right, and_none}
use Rattle.mmc_store.proofs.Entries.{level_early}

module _ (cap : ℕ) (s : List ℕ) (i l : ℕ) where
  abbrev f : Bool
  f = found s (level cap s i) i (suc l)

  abbrev x : ℕ
  x = predicted s (suc l) (level cap s i (suc l)).places i

  pub said_found : f ≡ true → spoken (guess cap s i l) ≡ Some x
  unfolding guess
  said_found t = rw t

  pub said_absent : f ≡ false → spoken (guess cap s i l) ≡ None
  unfolding guess
  said_absent t = rw t

  pub present_of : f ≡ true → present s (suc l) (level cap s i (suc l)).places i ≡ true
  unfolding found
  present_of t = and_right (found s (level cap s i) i l) (present s (suc l) (level cap s i (suc l)).places i) t

  -- the race hears what a level says
  pub heard_guess : heard (spoken (guess cap s i l)) ≡ guess cap s i l
  heard_guess = go (guess cap s i l)
    where
      go : (g : Guess) → heard (spoken g) ≡ g
      go silent = refl
      go (says y) = refl

  -- a level as long as the place, or longer, is silent
  pub quiet_guess : i ≤ suc l → spoken (guess cap s i l) ≡ None
  unfolding found present
  quiet_guess h = said_absent (rw (level_early cap s i (suc l) h) (and_none (found s (level cap s i) i l) false refl))
