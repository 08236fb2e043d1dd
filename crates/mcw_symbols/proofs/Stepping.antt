-- The candidate's step to the next place, in the code's own terms. Assumes nothing.
use mathlib.Core.Path.{◌≡◌, ap}
use mathlib.Core.Bool.{cond}
use Prim.Native.Nat.{ℕ, ◌+◌, ◌*◌, ◌/◌, ◌≤◌, ◌<◌, max}
use native.Mathlib.Omega.{arith}
use lib.Dec.{eqb, leb}
use borrow.Author.Tests.{leb-false, eq-eqb, ne_eqb}
use Rattle.race.proofs.Cases.{tested, same?}
use Rattle.mcw_symbols.specs.Inner.Candidate.{Candidate}
use Rattle.mcw_symbols.specs.Inner.Advance.{spent, loser_of}
use Rattle.mcw_symbols.proofs.Candidate.{thins, loses, comes-again, takes, stands}

module _ {count last : ℕ → ℕ} {k f m o : ℕ} (C : Candidate count last k f m o) where
  -- d leaves
  pub leaves : {count' : ℕ → ℕ} (d : ℕ) → (d ≡ f → count' f + 1 ≡ count f) → ((d ≡ f → ⊥) → count' f ≡ count f) → ((y : ℕ) → count' y ≤ count y)
      → Candidate count' last k f (spent d f m) o
  leaves d same other less =
      same? d f (λ e. rw (eq-eqb d f e) (loses C (same e) (λ y _. less y))) (λ e. rw (ne_eqb d f e) (thins C (other e) (λ y _. less y)))

  -- x comes, with the key n
  module _ {count' last' : ℕ → ℕ} {x : ℕ} (within : x < k) (one : count' x ≡ count x + 1)
      (kept : (y : ℕ) → (y ≡ x → ⊥) → count' y ≡ count y) (stays : (y : ℕ) → (y ≡ x → ⊥) → last' y ≡ last y)
      (newest : (y : ℕ) → (y ≡ x → ⊥) → last' y < last' x) (n : ℕ) (is : n ≡ 2 * count' x + 1) where
    pub enters : Candidate count' last' k (cond (leb m n) x f) (cond (leb m n) n m) (max (loser_of (eqb x f) m n) o)
    enters =
        tested (leb m n)
        (λ t. rw t
        (same? x f
        (λ e. let z : max 0 o ≡ o = omega arith in rw (eq-eqb x f e, z, is) (comes-again C within one kept stays newest e))
        (λ e. rw (ne_eqb x f e, is) (takes C within one kept stays newest (omega arith) (omega arith)))))
        (λ t. let l = leb-false m n t in
        let other : x ≡ f → ⊥ = λ e. let u : count x ≡ count f = ap count e in absurd (omega (arith, C.most)) in
        let h : n / 2 * 2 ≡ 2 * count' x = omega arith in
        rw (t, ne_eqb x f other, h) (stands C within one kept stays newest (omega arith) (omega arith) (omega arith)))

    -- the bound stays below one on all counts
    pub enters_small : (b : ℕ) → o ≤ b → 2 * count f ≤ b → 2 * count' x ≤ b → max (loser_of (eqb x f) m n) o ≤ b
    enters_small b p q r =
        same? x f
        (λ e. rw (eq-eqb x f e) (omega arith))
        (λ e. rw (ne_eqb x f e) (tested (leb m n) (λ t. rw t (omega (arith, C.least, C.most))) (λ t. rw t (omega arith))))
