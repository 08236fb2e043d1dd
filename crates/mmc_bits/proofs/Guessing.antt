-- What the levels say and how it is judged, over any number of levels and any cap. Assumes nothing.
use Prim.Native.Nat.{ℕ, zero, suc, ◌+◌, ◌≤◌, ◌<◌, min}
use mathlib.Core.Path.{◌≡◌, refl}
use mathlib.Core.List.{List}
use native.Mathlib.Omega.{arith}
use lib.Dec.{ltb}
use Rattle.race.specs.Race.{Guess, silent, says, judge, hit_of}
use Rattle.verdicts.specs.Inner.Told.{spoke_of}
use Rattle.verdicts.proofs.Digits.{apart}
use Rattle.mmc_bits.specs.Guesses.{verdict, behind, guess}
use Rattle.mmc_bits.specs.Inner.Steps.{lean}
use Rattle.race.proofs.Cases.{tested}
use Rattle.mmc_bits.proofs.Cases.{verdict_some}
use Rattle.mmc_bits.proofs.Shorter.{own_silent, followed_late}

-- ---- a level that is as long as the place or longer has no history, and says nothing

behind_none : (g : Guess) → behind g silent ≡ silent
behind_none silent = refl
behind_none (says x) = refl

pub guess_late : (cap : ℕ) (b : List ℕ) (i d : ℕ) → i ≤ suc d → guess cap b i d ≡ silent
unfolding guess
guess_late cap b i zero h = own_silent cap 1 b i (followed_late cap 1 b i h)
guess_late cap b i (suc d) h = rw (own_silent cap (suc (suc d)) b i (followed_late cap (suc (suc d)) b i h)) (behind_none (guess cap b i d))

-- ---- a level whose context has a count says a bit

module _ (z o : ℕ) (h : 0 < z + o) where
  -- it is right about a 0 where the zeros are more, and about a 1 where they are not
  pub right_is : (x : ℕ) → x < 2 → hit_of (judge (verdict z o) x) ≡ min (apart (lean z o) x) 1
  unfolding lean
  right_is zero l = rw (verdict_some z o h) (tested (ltb o z) (λ t. rw t refl) (λ t. rw t refl))
  right_is (suc zero) l = rw (verdict_some z o h) (tested (ltb o z) (λ t. rw t refl) (λ t. rw t refl))
  right_is (suc (suc x)) l = absurd (omega arith)

  pub spoke_is : (x : ℕ) → x < 2 → spoke_of (judge (verdict z o) x) ≡ 1
  spoke_is zero l = rw (verdict_some z o h) (tested (ltb o z) (λ t. rw t refl) (λ t. rw t refl))
  spoke_is (suc zero) l = rw (verdict_some z o h) (tested (ltb o z) (λ t. rw t refl) (λ t. rw t refl))
  spoke_is (suc (suc x)) l = absurd (omega arith)
