-- Places with the same context: each with itself, and two of them with the same others. The newest symbol may be compared first. Assumes nothing.
use Prim.Native.Nat.{ℕ, zero, suc, ◌-◌, ◌≤◌}
use mathlib.Core.Path.{◌≡◌, refl, ap, ◌∙◌}
use mathlib.Core.Bool.{Bool, true, false, ◌&&◌}
use mathlib.Core.List.{List}
use native.Mathlib.Nat.{not-suc-le-zero}
use native.Mathlib.Omega.{arith}
use lib.ListN.{get_or}
use lib.Dec.{eqb}
use borrow.Author.Tests.{eq-eqb}
use Rattle.mmc_store.specs.Counts.{same}

pub and_left : (a b : Bool) → (a && b) ≡ true → a ≡ true
and_left true b e = refl
and_left false b e = e

pub and_right : (a b : Bool) → (a && b) ≡ true → b ≡ true
and_right true b e = e
and_right false b e = let z : ◌≡◌ {A = ℕ} 0 1 = cc in absurd (let f : 1 ≤ 0 = omega arith in not-suc-le-zero f)

pub and_none : (a b : Bool) → b ≡ false → (a && b) ≡ false
and_none true b e = e
and_none false b e = refl

and_swap : (a b c : Bool) → (a && (b && c)) ≡ (b && (a && c))
and_swap true b c = refl
and_swap false true c = refl
and_swap false false c = refl

module _ (s : List ℕ) where
  pub same_refl : (L a : ℕ) → same s L a a ≡ true
  unfolding same
  same_refl zero a = refl
  same_refl (suc n) a = rw (eq-eqb (get_or s (a - suc n) 0) (get_or s (a - suc n) 0) refl) (same_refl n a)

  pub same_shorter : (L a b : ℕ) → same s (suc L) a b ≡ true → same s L a b ≡ true
  unfolding same
  same_shorter L a b h = and_right (eqb (get_or s (a - suc L) 0) (get_or s (b - suc L) 0)) (same s L a b) h

  -- the newest symbol, and the contexts before it
  pub same_newest : (L a b : ℕ) → same s (suc L) a b ≡ (eqb (get_or s (a - 1) 0) (get_or s (b - 1) 0) && same s L (a - 1) (b - 1))
  unfolding same
  same_newest zero a b = refl
  same_newest (suc n) a b =
      let p : a - suc (suc n) ≡ (a - 1) - suc n = omega arith in
      let q : b - suc (suc n) ≡ (b - 1) - suc n = omega arith in
      let t : Bool = eqb (get_or s ((a - 1) - suc n) 0) (get_or s ((b - 1) - suc n) 0) in
      rw (p, q)
      (ap (λ (r : Bool). t && r) (same_newest n a b) ∙ and_swap t (eqb (get_or s (a - 1) 0) (get_or s (b - 1) 0)) (same s n (a - 1) (b - 1)))
