-- How x comes to its fixed point, an update at a time. Assumes nothing.
use mathlib.Core.Path.{◌≡◌, ap, sym, ◌∙◌}
use mathlib.Core.Bool.{true, false}
use Prim.Native.Nat.{ℕ, suc, ◌+◌, ◌-◌, ◌≤◌, ◌<◌}
use native.Mathlib.Omega.{arith}
use lib.Ieee.{Float, lt}
use Rattle.rounding.specs.Doubles.{◌⊖◌, ◌⊗◌}
use Rattle.counts.specs.Doubles.{epsilon}
use Rattle.function.specs.Function.{settled, updated}

-- i of m updates are past
module _ (m : ℕ) (a : Float) (r : ℕ) (x last : Float) {y : Float} (i : ℕ) (e : settled (m - i) a r x last ≡ y) where
  one_less : i < m → m - i ≡ suc (m - (i + 1))
  one_less h = omega arith

  -- x still grows
  pub settles_on : i < m → lt (epsilon ⊗ x) (x ⊖ last) ≡ true → settled (m - (i + 1)) a r (updated a r x) x ≡ y
  unfolding settled
  settles_on h t = sym (ap (λ (k : ℕ). settled k a r x last) (one_less h) ∙ rw t) ∙ e

  -- x has stopped growing, or all updates are past
  pub settles_here : i < m → lt (epsilon ⊗ x) (x ⊖ last) ≡ false → x ≡ y
  unfolding settled
  settles_here h t = sym (ap (λ (k : ℕ). settled k a r x last) (one_less h) ∙ rw t) ∙ e

  pub settles_last : m ≤ i → x ≡ y
  unfolding settled
  settles_last h =
      let z : m - i ≡ 0 = omega arith in
      sym (ap (λ (k : ℕ). settled k a r x last) z) ∙ e
