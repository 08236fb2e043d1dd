-- The winner's score is the largest, after any number of places. Assumes nothing.
use mathlib.Core.Path.{◌≡◌, refl}
use mathlib.Core.Bool.{Bool}
use Prim.Native.Nat.{ℕ, zero, suc, ◌+◌, ◌-◌, ◌≤◌, ◌<◌}
use native.Mathlib.Omega.{arith}
use lib.ListN.{get_or, length-replicate}
use Rattle.race.specs.Race.{Guess, judge, Standing, standing, final_score}
use Rattle.race.proofs.Standing.{no_score}
use Rattle.verdicts.specs.Inner.Deficits.{is_right, gain, Behind}
use Rattle.verdicts.proofs.Deficits.{gain_enough, best_next, points, behind_next}

module _ (m first : ℕ) (guess : ℕ → ℕ → Guess) (truth : ℕ → ℕ) (some : 0 < m) where
  abbrev st : ℕ → Standing
  st n = standing m first guess truth n

  abbrev top : ℕ → ℕ
  top n = final_score m first guess truth n

  abbrev deficit : ℕ → ℕ → ℕ
  deficit n j = top n - get_or (st n).scores j 0

  pub standing_behind : (n : ℕ) → Behind m (st n) (top n) (deficit n)
  unfolding standing
  standing_behind zero =
      record {
        within = some;
        scores_are = length-replicate {A = ℕ} m 0;
        sums = λ j l. omega (arith, no_score m j, no_score m 0);
        winner_none = omega arith;
      }
  standing_behind (suc n) =
      let g = guess (first + n) in
      let x = truth (first + n) in
      let r : ℕ → Bool = λ j. is_right (judge (g j) x) in
      let D = standing_behind n in
      let b : top (suc n) ≡ top n + gain r (deficit n) m = best_next m g x (st n) (top n) (deficit n) r D (λ j l. refl) in
      rw b (behind_next m g x (st n) (top n) (deficit n) r D (λ j l. refl) (deficit (suc n))
      (λ j l. omega (arith, points m g x (st n) (top n) (deficit n) r D (λ j l. refl) m j l (omega arith), D.sums j l, gain_enough r (deficit n) m j l)))

  pub winner_largest : (n j : ℕ) → j < m → get_or (standing m first guess truth n).scores j 0 ≤ final_score m first guess truth n
  winner_largest n j l = omega (arith, (standing_behind n).sums j l)
