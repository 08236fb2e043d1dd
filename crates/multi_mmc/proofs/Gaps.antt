-- A level that has no count for a context, of a list of bits and under any cap, and the longer levels there. A level has at least the distinct
-- pairs that the next shorter one had a place earlier; so when the cap keeps a context out of a level, each longer level has met only new contexts
-- since, until it is as full itself.
-- Assumes nothing.
use Prim.Native.Nat.{ℕ, zero, suc, ◌+◌, ◌*◌, ◌≤◌, ◌<◌}
use mathlib.Core.Path.{◌≡◌, sym, subst, ◌∙◌}
use mathlib.Core.Logic.{◌⊎◌, inl, inr, ⊎_elim}
use mathlib.Core.List.{List}
use native.Mathlib.Omega.{arith}
use lib.ListN.{get_or}
use lib.Dec.{eqb, ltb}
use borrow.Author.Tests.{eqb-true, eqb-false, ltb-true, ltb-false}
use Rattle.mmc_bits.specs.Counters.{context, pair, occurs, counter}
use Rattle.mmc_bits.specs.Inner.Steps.{Bits, distinct}
use Rattle.race.proofs.Cases.{tested}
use Rattle.mmc_bits.proofs.Counting.{
  occurs_same,
  occurs_other,
  occurs_early,
  occurs_more,
  distinct_new,
  distinct_old,
  distinct_early,
  distinct_more,
  ahead_le,
  counter_low,
  counter_none,
  counter_other,
  counter-again,
  counter_first,
  counter_full,
}
use Rattle.mmc_bits.proofs.Shorter.{occurs_suffix}
use Rattle.multi_mmc.proofs.Windows.{key, context_next, pair_is}

-- ---- one place more, of the counters

module _ (cap L : ℕ) (s : List ℕ) where
  pub counter_early : (k i : ℕ) → i ≤ L → counter cap L s k i ≡ 0
  counter_early k i h = counter_none cap L s k i (occurs_early L s k i h)

  pub counter_up : (k i : ℕ) → counter cap L s k i ≤ counter cap L s k (suc i)
  counter_up k i = tested (eqb (pair L s i) k)
      (λ t. tested (ltb 0 (counter cap L s k i))
      (λ u. tested (ltb i L)
      (λ w. let h : i < L = ltb-true _ _ w in omega (arith, counter_early k i (omega arith)))
      (λ w. let e : pair L s i ≡ k = eqb-true _ _ t in
      let p : 0 < counter cap L s (pair L s i) i = rw e (ltb-true _ _ u) in
      let q : counter cap L s k (suc i) ≡ suc (counter cap L s k i) = rw e at (counter-again cap L s i (ltb-false _ _ w) p) in
      omega arith))
      (λ u. omega (arith, ltb-false 0 (counter cap L s k i) u)))
      (λ t. omega (arith, counter_other cap L s k i (eqb-false _ _ t)))

  -- a counter leaves 0 only below the cap
  pub counter_woken : (k i : ℕ) → counter cap L s k i ≡ 0 → 0 < counter cap L s k (suc i) → distinct L s i < cap
  counter_woken k i z p = tested (ltb (distinct L s i) cap) (λ t. ltb-true _ _ t)
      (λ t. tested (eqb (pair L s i) k)
      (λ u. tested (ltb i L)
      (λ w. absurd (omega (arith, counter_early k (suc i) (ltb-true _ _ w))))
      (λ w. let e : pair L s i ≡ k = eqb-true _ _ u in
      let z' : counter cap L s (pair L s i) i ≡ 0 = rw e z in
      let f : counter cap L s k (suc i) ≡ 0 = rw e at (counter_full cap L s i (ltb-false _ _ w) z' (ltb-false _ _ t)) in
      absurd (omega arith)))
      (λ u. absurd (omega (arith, counter_other cap L s k i (eqb-false _ _ u)))))

  -- below the cap a pair that has no count did not occur
  pub counter_room : (k i : ℕ) → distinct L s i < cap → counter cap L s k i ≡ 0 → occurs L s k i ≡ 0
  counter_room k i r z = sym (counter_low cap L s k i (omega (arith, ahead_le L s k i))) ∙ z

distinct_up : (L : ℕ) (s : List ℕ) (q j : ℕ) → q ≤ j → distinct L s q ≤ distinct L s j
distinct_up L s q zero h = let e : q ≡ 0 = omega arith in rw e (omega arith)
distinct_up L s q (suc j) h = tested (eqb q (suc j))
    (λ t. let e : q ≡ suc j = eqb-true _ _ t in rw e (omega arith))
    (λ t. let n : q ≡ suc j → ⊥ = eqb-false _ _ t in omega (arith, distinct_up L s q j (omega arith), distinct_more L s j))

-- ---- one level more

module _ (s : List ℕ) (bits : Bits s) where
  pub occurs_down : (L k x : ℕ) → x < 2 → (i : ℕ) → occurs (suc L) s (key s (suc L) k x) i ≤ occurs L s (key s L k x) i
  occurs_down L k x h i = occurs_suffix L s bits k x h i

  -- what followed the pair c followed a pair that was there a place earlier
  occurs_next : (L c x : ℕ) → x < 2 → (i : ℕ) → occurs (suc L) s (c * 2 + x) (suc i) ≤ occurs L s c i
  occurs_next L c x h zero = omega (arith, occurs_early (suc L) s (c * 2 + x) 1 (omega arith))
  occurs_next L c x h (suc i) = tested (ltb i L)
      (λ t. let l : i < L = ltb-true _ _ t in omega (arith, occurs_early (suc L) s (c * 2 + x) (suc (suc i)) (omega arith)))
      (λ t. let l : L ≤ i = ltb-false _ _ t in
      tested (eqb (pair (suc L) s (suc i)) (c * 2 + x))
      (λ u. let e : pair (suc L) s (suc i) ≡ c * 2 + x = eqb-true _ _ u in
      let f : pair L s i ≡ c = omega (arith, pair_is s (suc L) (suc i), bits (suc i), context_next s bits L i) in
      omega (arith, occurs_next L c x h i, occurs_same (suc L) s (c * 2 + x) (suc i) (omega arith) e, occurs_same L s c i l f))
      (λ u. omega (arith, occurs_next L c x h i, occurs_other (suc L) s (c * 2 + x) (suc i) (eqb-false _ _ u), occurs_more L s c i)))

  distinct_next : (L i : ℕ) → distinct L s i ≤ distinct (suc L) s (suc i)
  distinct_next L zero = omega (arith, distinct_early L s 0 (omega arith))
  distinct_next L (suc i) = tested (ltb i L)
      (λ t. omega (arith, distinct_early L s (suc i) (ltb-true _ _ t)))
      (λ t. let l : L ≤ i = ltb-false _ _ t in
      tested (eqb (occurs L s (pair L s i) i) 0)
      (λ u. let z : occurs L s (pair L s i) i ≡ 0 = eqb-true _ _ u in
      let p : pair (suc L) s (suc i) ≡ pair L s i * 2 + get_or s (suc i) 0 = omega (arith, pair_is s (suc L) (suc i), context_next s bits L i) in
      let f : occurs (suc L) s (pair (suc L) s (suc i)) (suc i) ≡ 0 = rw p (omega (arith, occurs_next L (pair L s i) (get_or s (suc i) 0) (bits (suc i)) i)) in
      omega (arith, distinct_next L i, distinct_new L s i l z, distinct_new (suc L) s (suc i) (omega arith) f))
      (λ u. omega (arith, distinct_next L i, distinct_old L s i (eqb-false _ _ u), distinct_more (suc L) s (suc i))))

  -- ---- contexts that were not met before

  -- level L meets the context of place i there for the first time
  abbrev pub New : ℕ → ℕ → Type 0
  New L i = (x : ℕ) → x < 2 → occurs L s (key s L i x) i ≡ 0

  new_down : (L i : ℕ) → New L i → New (suc L) i
  new_down L i w x h = omega (arith, occurs_down L i x h i, w x h)

  new_next : (L i : ℕ) → New L i → New (suc L) (suc i)
  new_next L i w x h =
      let z : occurs L s (pair L s i) i ≡ 0 = rw (pair_is s L i) (w (get_or s i 0) (bits i)) in
      rw (context_next s bits L i) (omega (arith, occurs_next L (pair L s i) x h i))

  module _ (cap : ℕ) where
    -- since some place that had a new context, every place to i at which level L was below the cap had one
    pub record Since (L i : ℕ) : Type 0 where
      pub from : ℕ
      pub until : from ≤ i
      pub first : New L from
      pub each : (j : ℕ) → from ≤ j → j ≤ i → distinct L s j < cap → New L j

    pub since_new : (L i : ℕ) → Since L i → distinct L s i < cap → New L i
    since_new L i w r = w.each i w.until (omega arith) r

    -- the next longer level
    pub since_down : (L i : ℕ) → Since L i → Since (suc L) i
    since_down L i w = record { from = w.from; until = w.until; first = new_down L w.from w.first; each = go }
      where
        go : (j : ℕ) → w.from ≤ j → j ≤ i → distinct (suc L) s j < cap → New (suc L) j
        go zero l m r = new_down L 0 (w.each 0 l m (omega (arith, distinct_early L s 0 (omega arith))))
        go (suc j) l m r = tested (eqb w.from (suc j))
            (λ t. subst (New (suc L)) (eqb-true _ _ t) (new_down L w.from w.first))
            (λ t. let n : w.from ≡ suc j → ⊥ = eqb-false _ _ t in
            new_next L j (w.each j (omega arith) (omega arith) (omega (arith, distinct_next L j))))

    -- level L has no count for the context of k
    abbrev pub Silent : ℕ → ℕ → ℕ → Type 0
    Silent L k i = (x : ℕ) → x < 2 → counter cap L s (key s L k x) i ≡ 0

    -- level L was full already when it met some context first
    record Late (L i : ℕ) : Type 0 where
      from : ℕ
      until : from < i
      first : New L from
      full : cap ≤ distinct L s from

    late_more : (L i : ℕ) → Late L i → Late L (suc i)
    late_more L i w = record { from = w.from; until = omega (arith, w.until); first = w.first; full = w.full }

    -- a context without a count was not met, or too late
    silent_late : (L k i : ℕ) → Silent L k i → ((x : ℕ) → x < 2 → occurs L s (key s L k x) i ≡ 0) ⊎ Late L i
    silent_late L k zero z = inl (λ x h. occurs_early L s (key s L k x) 0 (omega arith))
    silent_late L k (suc i) z = ⊎_elim here (λ w. inr (late_more L i w)) (silent_late L k i (λ x h. omega (arith, z x h, counter_up cap L s (key s L k x) i)))
      where
        here : ((x : ℕ) → x < 2 → occurs L s (key s L k x) i ≡ 0) → ((x : ℕ) → x < 2 → occurs L s (key s L k x) (suc i) ≡ 0) ⊎ Late L (suc i)
        here u = tested (ltb i L)
            (λ t. inl (λ x h. occurs_early L s (key s L k x) (suc i) (ltb-true _ _ t)))
            (λ t. tested (eqb (context L s i) (context L s k))
            (λ e. let c : context L s i ≡ context L s k = eqb-true _ _ e in
            let o : occurs L s (pair L s i) i ≡ 0 = rw (pair_is s L i, c) (u (get_or s i 0) (bits i)) in
            let p : counter cap L s (pair L s i) (suc i) ≡ 0 = rw (pair_is s L i, c) (z (get_or s i 0) (bits i)) in
            inr (record {
              from = i;
              until = omega arith;
              first = λ x h. rw c (u x h);
              full = tested (ltb (distinct L s i) cap)
                  (λ f. absurd (omega (arith, counter_first cap L s i (ltb-false _ _ t) (counter_none cap L s (pair L s i) i o) (ltb-true _ _ f))))
                  (λ f. ltb-false _ _ f);
            }))
            (λ e. let n : context L s i ≡ context L s k → ⊥ = eqb-false _ _ e in
            inl (λ x h. occurs_other L s (key s L k x) i (λ q. n (omega (arith, pair_is s L i, bits i))) ∙ u x h)))

    pub silent_since : (L i : ℕ) → Silent L i i → Since L i
    silent_since L i z = ⊎_elim
        (λ u. record { from = i; until = omega arith; first = u; each = λ j l m r. subst (New L) (let e : i ≡ j = omega arith in e) u })
        (λ w. record {
          from = w.from;
          until = omega (arith, w.until);
          first = w.first;
          each = λ j l m r. absurd (omega (arith, w.full, distinct_up L s w.from j l));
        })
        (silent_late L i i z)
