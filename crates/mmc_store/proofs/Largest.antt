-- The symbol of the largest count, once one count has grown. Assumes nothing.
use Prim.Native.Nat.{ℕ, zero, suc, ◌≤◌, ◌<◌}
use mathlib.Core.Path.{◌≡◌, refl, ap}
use mathlib.Core.Logic.{⊎_elim}
use mathlib.Core.Bool.{Bool, true, false, cond}
use native.Mathlib.Omega.{arith}
use native.Mathlib.Nat.{eq-or-lt_of_le, le_of_suc-le-suc}
use lib.Dec.{leb}
use borrow.Author.Tests.{leb-true, leb-false}
use Rattle.mmc_store.specs.Counts.{largest}

-- b is the largest of the symbols below n at which f is largest
pub record Top (f : ℕ → ℕ) (n b : ℕ) : Type 0 where
  pub below : b < n
  pub most : (y : ℕ) → y < n → f y ≤ f b
  pub ties : (y : ℕ) → y < n → f y ≡ f b → y ≤ b

pub largest_top : (f : ℕ → ℕ) (n : ℕ) → Top f (suc n) (largest f (suc n))
unfolding largest
largest_top f zero = go (leb (f 0) (f 0))
  where
    go : (b : Bool) → Top f 1 (cond b 0 0)
    go true = record { below = omega arith; most = λ y l. (let z : y ≡ 0 = omega arith in rw z (omega arith)); ties = λ y l e. omega arith }
    go false = record { below = omega arith; most = λ y l. (let z : y ≡ 0 = omega arith in rw z (omega arith)); ties = λ y l e. omega arith }
largest_top f (suc n) = go (largest f (suc n)) (largest_top f n) (leb (f (largest f (suc n))) (f (suc n))) refl
  where
    go : (b : ℕ) → Top f (suc n) b → (t : Bool) → leb (f b) (f (suc n)) ≡ t → Top f (suc (suc n)) (cond t (suc n) b)
    go b w true e = record {
      below = omega arith;
      most = λ y l. ⊎_elim (λ q. omega (arith, ap f q)) (λ h. omega (arith, w.most y h, leb-true (f b) (f (suc n)) e)) (eq-or-lt_of_le (le_of_suc-le-suc l));
      ties = λ y l q. omega arith;
    }
    go b w false e = record {
      below = omega (arith, w.below);
      most = λ y l. ⊎_elim (λ q. omega (arith, ap f q, leb-false (f b) (f (suc n)) e)) (λ h. w.most y h) (eq-or-lt_of_le (le_of_suc-le-suc l));
      ties = λ y l q. ⊎_elim (λ r. absurd (let z : f b < f b = omega (arith, ap f r, leb-false (f b) (f (suc n)) e) in omega arith))
          (λ h. w.ties y h q) (eq-or-lt_of_le (le_of_suc-le-suc l));
    }

pub top_one : (f : ℕ → ℕ) (n a b : ℕ) → Top f n a → Top f n b → a ≡ b
top_one f n a b p q =
    let x : f a ≤ f b = q.most a p.below in
    let y : f b ≤ f a = p.most b q.below in
    omega (arith, q.ties a p.below (omega arith), p.ties b q.below (omega arith))

pub largest_is : (f : ℕ → ℕ) (n b : ℕ) → Top f (suc n) b → largest f (suc n) ≡ b
largest_is f n b t = top_one f (suc n) (largest f (suc n)) b (largest_top f n) t
