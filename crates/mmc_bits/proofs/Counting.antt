-- One place more: what it does to the counts of pairs, over any level and any cap. Assumes nothing.
use Prim.Native.Nat.{ℕ, zero, suc, ◌≤◌, ◌<◌}
use mathlib.Core.Path.{◌≡◌, refl, sym, ap, ◌∙◌}
use mathlib.Core.Bool.{Bool, true, false, ◌&&◌, and-false, and-true}
use mathlib.Core.List.{List}
use native.Mathlib.Omega.{arith}
use lib.Dec.{leb, ltb, eqb}
use borrow.Author.Tests.{lt-ltb, le-ltb, le-leb, lt-leb, eq-eqb, ne_eqb, eqb-true, eqb-false, ltb-true, ltb-false, leb-true, leb-false}
use Rattle.capture.specs.Bits.{one}
use Rattle.mmc_bits.specs.Inner.Steps.{distinct}
use Rattle.mmc_bits.specs.Counters.{pair, places, occurs, fresh, ahead, counter}
use Rattle.race.proofs.Cases.{tested}
use Rattle.mmc_bits.proofs.Cases.{one_le}

pub places_in_lem : (p : ℕ → Bool) (from i : ℕ) → from ≤ i → p i ≡ true → places p from (suc i) ≡ suc (places p from i)
unfolding places
places_in_lem p from i h e = rw (le-leb from i h, e) (omega arith)

pub places_out : (p : ℕ → Bool) (from i : ℕ) → p i ≡ false → places p from (suc i) ≡ places p from i
unfolding places
places_out p from i e = rw (e, and-false) (omega arith)

pub places_early : (p : ℕ → Bool) (from i : ℕ) → i ≤ from → places p from i ≡ 0
unfolding places
places_early p from zero h = refl
places_early p from (suc i) h = rw (lt-leb from i h, places_early p from i (omega arith)) refl

pub places_more : (p : ℕ → Bool) (from i : ℕ) → places p from i ≤ places p from (suc i)
unfolding places
places_more p from i = omega arith

pub places_le : (p : ℕ → Bool) (from i : ℕ) → places p from i ≤ i
unfolding places
places_le p from zero = omega arith
places_le p from (suc i) = omega (arith, places_le p from i, one_le (leb from i && p i))

-- a test that holds less often counts fewer places
and_one : (r s t : Bool) → one (r && (s && t)) ≤ one (r && s)
and_one true true true = omega arith
and_one true true false = omega arith
and_one true false t = omega arith
and_one false s t = omega arith

module _ (L : ℕ) (b : List ℕ) where
  pub occurs_same : (k i : ℕ) → L ≤ i → pair L b i ≡ k → occurs L b k (suc i) ≡ suc (occurs L b k i)
  unfolding occurs
  occurs_same k i h e = places_in_lem (λ j. eqb (pair L b j) k) L i h (eq-eqb _ _ e)

  pub occurs_other : (k i : ℕ) → (pair L b i ≡ k → ⊥) → occurs L b k (suc i) ≡ occurs L b k i
  unfolding occurs
  occurs_other k i e = places_out (λ j. eqb (pair L b j) k) L i (ne_eqb _ _ e)

  pub occurs_early : (k i : ℕ) → i ≤ L → occurs L b k i ≡ 0
  unfolding occurs
  occurs_early k i h = places_early _ L i h

  pub occurs_more : (k i : ℕ) → occurs L b k i ≤ occurs L b k (suc i)
  unfolding occurs
  occurs_more k i = places_more _ L i

  pub occurs_le : (k i : ℕ) → occurs L b k i ≤ i
  unfolding occurs
  occurs_le k i = places_le _ L i

  pub distinct_new : (i : ℕ) → L ≤ i → occurs L b (pair L b i) i ≡ 0 → distinct L b (suc i) ≡ suc (distinct L b i)
  unfolding distinct fresh
  distinct_new i h e = places_in_lem (fresh L b) L i h (eq-eqb _ _ e)

  pub distinct_old : (i : ℕ) → (occurs L b (pair L b i) i ≡ 0 → ⊥) → distinct L b (suc i) ≡ distinct L b i
  unfolding distinct fresh
  distinct_old i e = places_out (fresh L b) L i (ne_eqb _ _ e)

  pub distinct_early : (i : ℕ) → i ≤ L → distinct L b i ≡ 0
  unfolding distinct
  distinct_early i h = places_early _ L i h

  pub distinct_more : (i : ℕ) → distinct L b i ≤ distinct L b (suc i)
  unfolding distinct
  distinct_more i = places_more _ L i

  -- before k occurs, all distinct pairs are ahead of it
  pub ahead_all : (k i : ℕ) → occurs L b k i ≡ 0 → ahead L b k i ≡ distinct L b i
  unfolding ahead distinct places
  ahead_all k zero e = refl
  ahead_all k (suc i) e =
      rw (ahead_all k i (omega (arith, occurs_more k i)), eq-eqb (occurs L b k (suc i)) 0 e, and-true (fresh L b i)) refl

  -- from its first occurrence on, none is added
  pub ahead_stays : (k i : ℕ) → (occurs L b k (suc i) ≡ 0 → ⊥) → ahead L b k (suc i) ≡ ahead L b k i
  unfolding ahead
  ahead_stays k i e = places_out _ L i (rw (ne_eqb (occurs L b k (suc i)) 0 e, and-false) refl)

  pub here_is : (k i : ℕ) → occurs L b k i < occurs L b k (suc i) → (L ≤ i) × (pair L b i ≡ k)
  here_is k i h = (late, same)
    where
      late : L ≤ i
      late = tested (leb L i) (λ t. leb-true _ _ t) (λ t. let g : i < L = leb-false _ _ t in absurd (omega (arith, occurs_early k (suc i) g)))

      same : pair L b i ≡ k
      same = tested (eqb (pair L b i) k) (λ t. eqb-true _ _ t) (λ t. absurd (omega (arith, occurs_other k i (eqb-false _ _ t))))

  ahead_new : (k i : ℕ) → 0 < occurs L b k (suc i) → occurs L b k i ≡ 0 → ahead L b k (suc i) < distinct L b (suc i)
  ahead_new k i h z =
      let g : (L ≤ i) × (pair L b i ≡ k) = here_is k i (omega arith) in
      let f : occurs L b (pair L b i) i ≡ 0 = rw g.1 z in
      omega (arith, ahead_stays k i (λ e. omega arith), ahead_all k i z, distinct_new i g.0 f)

  -- a pair that occurred is one of the distinct pairs, and not ahead of itself
  pub ahead_lt : (k i : ℕ) → 0 < occurs L b k i → ahead L b k i < distinct L b i
  ahead_lt k zero h = absurd (omega (arith, occurs_le k 0))
  ahead_lt k (suc i) h = tested (eqb (occurs L b k i) 0)
      (λ t. let z : occurs L b k i ≡ 0 = eqb-true _ _ t in ahead_new k i h z)
      (λ t. let n : occurs L b k i ≡ 0 → ⊥ = eqb-false _ _ t in
      omega (arith, ahead_lt k i (omega arith), ahead_stays k i (λ z. omega arith), distinct_more i))

  pub ahead_le : (k i : ℕ) → ahead L b k i ≤ distinct L b i
  unfolding ahead distinct places
  ahead_le k zero = omega arith
  ahead_le k (suc i) = omega (arith, ahead_le k i, and_one (leb L i) (fresh L b i) (eqb (occurs L b k (suc i)) 0))

module _ (cap L : ℕ) (b : List ℕ) where
  pub counter_low : (k i : ℕ) → ahead L b k i < cap → counter cap L b k i ≡ occurs L b k i
  unfolding counter
  counter_low k i h = rw (lt-ltb _ _ h) refl

  pub counter_high : (k i : ℕ) → cap ≤ ahead L b k i → counter cap L b k i ≡ 0
  unfolding counter
  counter_high k i h = rw (le-ltb _ _ h) refl

  pub counter_none : (k i : ℕ) → occurs L b k i ≡ 0 → counter cap L b k i ≡ 0
  unfolding counter
  counter_none k i e = tested (ltb (ahead L b k i) cap) (λ t. rw t e) (λ t. rw t refl)

  pub counter_le : (k i : ℕ) → counter cap L b k i ≤ i
  unfolding counter
  counter_le k i = tested (ltb (ahead L b k i) cap) (λ t. rw t (occurs_le L b k i)) (λ t. rw t (omega arith))

  pub counter_under : (k i : ℕ) → counter cap L b k i ≤ occurs L b k i
  unfolding counter
  counter_under k i = tested (ltb (ahead L b k i) cap) (λ t. rw t (omega arith)) (λ t. rw t (omega arith))

  -- a pair that is not at place i keeps its counter
  pub counter_other : (k i : ℕ) → (pair L b i ≡ k → ⊥) → counter cap L b k (suc i) ≡ counter cap L b k i
  unfolding counter
  counter_other k i e = tested (eqb (occurs L b k i) 0)
      (λ t. counter_none k (suc i) (occurs_other L b k i e ∙ eqb-true _ _ t) ∙ sym (counter_none k i (eqb-true _ _ t)))
      (λ t. rw (ahead_stays L b k i (λ z. eqb-false _ _ t (sym (occurs_other L b k i e) ∙ z)), occurs_other L b k i e) refl)

  -- the pair at place i
  module _ (i : ℕ) (h : L ≤ i) where
    ahead_here : ahead L b (pair L b i) (suc i) ≡ ahead L b (pair L b i) i
    ahead_here = ahead_stays L b (pair L b i) i (λ z. omega (arith, occurs_same L b (pair L b i) i h refl))

    -- a counter of 0 while there is room says that the pair did not occur
    pub unseen : counter cap L b (pair L b i) i ≡ 0 → distinct L b i < cap → occurs L b (pair L b i) i ≡ 0
    unseen e r = sym (counter_low (pair L b i) i (omega (arith, ahead_le L b (pair L b i) i))) ∙ e

    pub counter-again : 0 < counter cap L b (pair L b i) i → counter cap L b (pair L b i) (suc i) ≡ suc (counter cap L b (pair L b i) i)
    counter-again p = tested (ltb (ahead L b (pair L b i) i) cap)
        (λ t. let low : ahead L b (pair L b i) i < cap = ltb-true _ _ t in
        counter_low (pair L b i) (suc i) (omega (arith, ahead_here)) ∙ occurs_same L b (pair L b i) i h refl ∙ ap suc (sym (counter_low (pair L b i) i low)))
        (λ t. absurd (omega (arith, counter_high (pair L b i) i (ltb-false _ _ t))))

    pub counter_first : counter cap L b (pair L b i) i ≡ 0 → distinct L b i < cap → counter cap L b (pair L b i) (suc i) ≡ 1
    counter_first e r =
        counter_low (pair L b i) (suc i) (omega (arith, ahead_here, ahead_le L b (pair L b i) i)) ∙ occurs_same L b (pair L b i) i h refl ∙ ap suc (unseen e r)

    pub counter_full : counter cap L b (pair L b i) i ≡ 0 → cap ≤ distinct L b i → counter cap L b (pair L b i) (suc i) ≡ 0
    counter_full e r = counter_high (pair L b i) (suc i) (omega (arith, ahead_here, far))
      where
        far : cap ≤ ahead L b (pair L b i) i
        far = tested (ltb (ahead L b (pair L b i) i) cap)
            (λ t. let o : occurs L b (pair L b i) i ≡ 0 = sym (counter_low (pair L b i) i (ltb-true _ _ t)) ∙ e in
            omega (arith, ahead_all L b (pair L b i) i o))
            (λ t. ltb-false _ _ t)

    -- the number of pairs that have a counter, at most 100,000
    pub stored-again : 0 < counter cap L b (pair L b i) i → distinct L b (suc i) ≡ distinct L b i
    stored-again p = distinct_old L b i (λ z. omega (arith, counter_none (pair L b i) i z))

    pub stored_first : counter cap L b (pair L b i) i ≡ 0 → distinct L b i < cap → distinct L b (suc i) ≡ suc (distinct L b i)
    stored_first e r = distinct_new L b i h (unseen e r)
