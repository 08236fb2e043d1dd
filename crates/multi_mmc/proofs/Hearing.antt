-- The levels that have a count for a context, each shorter one too, by the counters of bits. A level can begin to have a count only below the
-- cap, and there it has counted all that it met; so the levels that begin to be heard at a place never met the context before.
-- Assumes nothing.
use Prim.Native.Nat.{ℕ, zero, suc, ◌+◌, ◌≤◌, ◌<◌}
use mathlib.Core.Path.{◌≡◌, refl, sym}
use mathlib.Core.Bool.{Bool, true, false, ◌&&◌, false≢true}
use mathlib.Core.List.{List}
use native.Mathlib.Omega.{arith}
use lib.Dec.{ltb}
use borrow.Author.Tests.{ltb-true, ltb-false, lt-ltb}
use Rattle.mmc_bits.specs.Counters.{context, occurs, counter}
use Rattle.mmc_bits.specs.Inner.Steps.{Bits, distinct}
use Rattle.race.proofs.Cases.{tested}
use Rattle.mmc_store.proofs.Same.{and_left, and_right}
use Rattle.multi_mmc.proofs.Windows.{of_two, key, context_down}
use Rattle.multi_mmc.proofs.Gaps.{counter_woken, counter_room, occurs_down, Silent, Since, since_down, silent_since}

module _ (cap : ℕ) (s : List ℕ) where
  -- level L's counts for the context of k, before place i
  abbrev pub both : ℕ → ℕ → ℕ → ℕ
  both L k i = counter cap L s (key s L k 0) i + counter cap L s (key s L k 1) i

  -- each level from 1 to L has one
  unfoldable pub heard : ℕ → ℕ → ℕ → Bool
  heard zero k i = true
  heard (suc L) k i = heard L k i && ltb 0 (both (suc L) k i)

  pub heard_here : (L k i : ℕ) → heard L k i ≡ true → 0 < both (suc L) k i → heard (suc L) k i ≡ true
  unfolding heard
  heard_here L k i e p = rw (e, lt-ltb 0 (both (suc L) k i) p)

  pub heard_below : (L k i : ℕ) → heard (suc L) k i ≡ true → heard L k i ≡ true
  unfolding heard
  heard_below L k i e = and_left (heard L k i) (ltb 0 (both (suc L) k i)) e

  heard_some : (L k i : ℕ) → heard (suc L) k i ≡ true → 0 < both (suc L) k i
  unfolding heard
  heard_some L k i e = ltb-true 0 (both (suc L) k i) (and_right (heard L k i) (ltb 0 (both (suc L) k i)) e)

  pub heard_not : (L k i : ℕ) → heard L k i ≡ true → heard (suc L) k i ≡ false → both (suc L) k i ≡ 0
  unfolding heard
  heard_not L k i e f = omega (arith, ltb-false 0 (both (suc L) k i) (rw e at f))

  -- places of the same context hear the same levels
  pub heard_same : (L a b i : ℕ) → context L s a ≡ context L s b → heard L a i ≡ heard L b i
  unfolding heard
  heard_same zero a b i e = refl
  heard_same (suc L) a b i e = rw (heard_same L a b i (context_down s L a b e), e)

  pub bit_le : (L k i x : ℕ) → x < 2 → counter cap L s (key s L k x) i ≤ both L k i
  bit_le L k i = of_two (λ x. counter cap L s (key s L k x) i ≤ both L k i) (omega arith) (omega arith)

  module _ (bits : Bits s) where
    pub both_none : (L k i : ℕ) → both L k i ≡ 0 → Silent s bits cap L k i
    both_none L k i e x h = omega (arith, bit_le L k i x h)

    both_woken : (L k i : ℕ) → both L k i ≡ 0 → 0 < both L k (suc i) → distinct L s i < cap
    both_woken L k i z p = tested (ltb 0 (counter cap L s (key s L k 0) (suc i)))
        (λ t. counter_woken cap L s (key s L k 0) i (omega arith) (ltb-true _ _ t))
        (λ t. let f : counter cap L s (key s L k 0) (suc i) ≤ 0 = ltb-false _ _ t in
        counter_woken cap L s (key s L k 1) i (omega arith) (omega arith))

    pub woken : (L k i : ℕ) → heard L k i ≡ false → heard L k (suc i) ≡ true → (x : ℕ) → x < 2 → occurs L s (key s L k x) i ≡ 0
    unfolding heard
    woken zero k i f e x h = absurd (false≢true (sym f))
    woken (suc L) k i f e x h = tested (heard L k i)
        (λ t. let z : both (suc L) k i ≡ 0 = heard_not L k i t f in
        counter_room cap (suc L) s (key s (suc L) k x) i (both_woken (suc L) k i z (heard_some L k (suc i) e)) (both_none (suc L) k i z x h))
        (λ t. omega (arith, occurs_down s bits L k x h i, woken L k i t (heard_below L k (suc i) e) x h))

    -- where one of the levels to L is not heard, level L met only new contexts below the cap
    pub unheard : (L i : ℕ) → heard L i i ≡ false → Since s bits cap L i
    unfolding heard
    unheard zero i f = absurd (false≢true (sym f))
    unheard (suc L) i f = tested (heard L i i)
        (λ t. silent_since s bits cap (suc L) i (both_none (suc L) i i (heard_not L i i t f)))
        (λ t. since_down s bits cap L i (unheard L i t))
