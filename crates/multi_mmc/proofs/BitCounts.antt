-- What the general rules say of bits: a context is present where 0 or 1 was counted after it, and the predicted symbol is 0 only if it was counted
-- more often, since no other symbol was counted at all.
-- Assumes nothing.
use Prim.Native.Nat.{ℕ, suc, ◌+◌, ◌≤◌, ◌<◌}
use mathlib.Core.Path.{◌≡◌, refl, sym, ap, ◌∙◌}
use mathlib.Core.Bool.{cond, and-false}
use mathlib.Core.List.{List, [], ◌∷◌}
use native.Mathlib.Omega.{arith}
use lib.ListN.{get_or}
use lib.Dec.{eqb, ltb}
use borrow.Author.Tests.{eq-eqb, ne_eqb, lt-ltb, ltb-true, ltb-false}
use Rattle.mmc_bits.specs.Counters.{pair}
use Rattle.mmc_bits.specs.Inner.Steps.{Bits}
use Rattle.race.proofs.Cases.{tested}
use Rattle.mmc_store.specs.Counts.{same, present, count, predicted}
use Rattle.mmc_store.proofs.Largest.{Top, largest_is}
use Rattle.multi_mmc.proofs.Windows.{of_two, key, pair_same}

module _ (s : List ℕ) (bits : Bits s) (L : ℕ) where
  -- ---- the place i is counted, with or without the pair of the context of k and the bit x
  module _ (h : List ℕ) (i k x : ℕ) (l : L ≤ i) (m : L ≤ k) (b : x < 2) where
    pub count_in : pair L s i ≡ key s L k x → count s L (i ∷ h) k x ≡ suc (count s L h k x)
    unfolding count
    count_in e = rw (pair_same s bits L i k x l m b, eq-eqb (pair L s i) (key s L k x) e) (omega arith)

    pub count_out : (pair L s i ≡ key s L k x → ⊥) → count s L (i ∷ h) k x ≡ count s L h k x
    unfolding count
    count_out n = rw (pair_same s bits L i k x l m b, ne_eqb (pair L s i) (key s L k x) n) (omega arith)

  -- ---- what was counted after the context of k

  one_bit : (b : ℕ) → b < 2 → cond (eqb b 0) 1 0 + cond (eqb b 1) 1 0 ≡ 1
  one_bit = of_two (λ b. cond (eqb b 0) 1 0 + cond (eqb b 1) 1 0 ≡ 1) refl refl

  pub present_is : (h : List ℕ) (k : ℕ) → present s L h k ≡ ltb 0 (count s L h k 0 + count s L h k 1)
  unfolding present count
  present_is [] k = refl
  present_is (j ∷ h) k = tested (same s L j k)
      (λ t. let n = count s L h k 0 + cond (eqb (get_or s j 0) 0) 1 0 + (count s L h k 1 + cond (eqb (get_or s j 0) 1) 1 0) in
      let p : 0 < n = omega (arith, one_bit (get_or s j 0) (bits j)) in
      rw t (sym (lt-ltb 0 n p)))
      (λ t. let e : count s L h k 0 + 0 + (count s L h k 1 + 0) ≡ count s L h k 0 + count s L h k 1 = omega arith in
      rw t (present_is h k ∙ sym (ap (ltb 0) e)))

  count_none : (h : List ℕ) (k x : ℕ) → 2 ≤ x → count s L h k x ≡ 0
  unfolding count
  count_none [] k x b = refl
  count_none (j ∷ h) k x b =
      rw (count_none h k x b, ne_eqb (get_or s j 0) x (λ e. omega (arith, bits j)), and-false (same s L j k)) refl

  module _ (h : List ℕ) (k : ℕ) where
    abbrev f : ℕ → ℕ
    f = count s L h k

    -- no other symbol was counted, so the bit that leads the other leads all
    two_top : (x : ℕ) → x < 2 → 0 < f x → ((y : ℕ) → y < 2 → f y ≤ f x) → ((y : ℕ) → y < 2 → f y ≡ f x → y ≤ x) → Top f 256 x
    two_top x b p m t = record {
      below = omega arith;
      most = λ y l. tested (ltb y 2) (λ u. m y (ltb-true _ _ u)) (λ u. omega (arith, count_none h k y (ltb-false _ _ u)));
      ties = λ y l e. tested (ltb y 2) (λ u. t y (ltb-true _ _ u) e) (λ u. absurd (omega (arith, count_none h k y (ltb-false _ _ u))));
    }

    pub predicted_is : 0 < f 0 + f 1 → predicted s L h k ≡ cond (ltb (f 1) (f 0)) 0 1
    unfolding predicted
    predicted_is p = tested (ltb (f 1) (f 0))
        (λ t. let l : f 1 < f 0 = ltb-true _ _ t in
        rw t (largest_is f 255 0 (two_top 0 (omega arith) (omega arith)
        (of_two (λ y. f y ≤ f 0) (omega arith) (omega arith))
        (of_two (λ y. f y ≡ f 0 → y ≤ 0) (λ e. omega arith) (λ e. absurd (omega arith))))))
        (λ t. let l : f 0 ≤ f 1 = ltb-false _ _ t in
        rw t (largest_is f 255 1 (two_top 1 (omega arith) (omega arith)
        (of_two (λ y. f y ≤ f 1) (omega arith) (omega arith))
        (of_two (λ y. f y ≡ f 1 → y ≤ 1) (λ e. omega arith) (λ e. omega arith)))))
