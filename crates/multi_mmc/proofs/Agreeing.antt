-- On bits, what the general rules have counted before a place, and the counters of the bit rules, for any cap. Both count the same place of a
-- context that every shorter level has; where one of those has not, the general rules may leave a place out, but then the level is full and is
-- never heard of that context, and below the cap the pair is new, so that their entries are the distinct pairs.
-- Assumes nothing.
use Prim.Native.Nat.{ℕ, zero, suc, ◌+◌, ◌≤◌, ◌<◌, min}
use mathlib.Core.Path.{◌≡◌, refl, sym, ap, ◌∙◌}
use mathlib.Core.Bool.{true, false, cond}
use mathlib.Core.List.{List, ◌∷◌}
use native.Mathlib.Omega.{arith}
use lib.ListN.{get_or}
use lib.Dec.{eqb, ltb}
use borrow.Author.Tests.{eqb-true, eqb-false, ltb-true, ltb-false, lt-ltb, le-ltb}
use Rattle.mmc_bits.specs.Counters.{context, pair, occurs, counter}
use Rattle.mmc_bits.specs.Inner.Steps.{Bits, distinct}
use Rattle.race.proofs.Cases.{tested}
use Rattle.mmc_bits.proofs.Counting.{
  distinct_early,
  distinct_more,
  counter_none,
  counter_other,
  counter-again,
  counter_first,
  counter_full,
  stored-again,
  stored_first,
}
use Rattle.mmc_store.specs.Counts.{count}
use Rattle.mmc_store.specs.Levels.{Level, nothing, counting, when_found, when_absent, found, level}
use Rattle.multi_mmc.proofs.Windows.{key, context_down, pair_is}
use Rattle.multi_mmc.proofs.Gaps.{counter_early, counter_up, occurs_down, since_new}
use Rattle.multi_mmc.proofs.Hearing.{heard, heard_below, heard_not, heard_same, bit_le, woken, unheard}
use Rattle.multi_mmc.proofs.BitCounts.{count_in, count_out, present_is}

module _ (cap : ℕ) (s : List ℕ) where
  -- level l + 1 before place i is v: its entries, and its counts of the contexts of the places to come
  pub record Agrees (l i : ℕ) (v : Level) : Type 0 where
    pub entries_are : v.entries ≡ min (distinct (suc l) s i) cap
    pub under : (k x : ℕ) → i ≤ k → x < 2 → count s (suc l) v.places k x ≤ counter cap (suc l) s (key s (suc l) k x) i
    pub exact : (k x : ℕ) → i ≤ k → x < 2 → heard cap s l k i ≡ true → count s (suc l) v.places k x ≡ counter cap (suc l) s (key s (suc l) k x) i

  -- ---- the level's first place has not come

  level_early : (i L : ℕ) → i ≤ L → level cap s i L ≡ nothing
  unfolding level
  level_early zero L h = refl
  level_early (suc i) L h = rw (lt-ltb i L h)

  early : (l i : ℕ) → i ≤ suc l → Agrees l i nothing
  unfolding count
  early l i h = record {
    entries_are = omega (arith, distinct_early (suc l) s i h);
    under = λ k x m b. omega arith;
    exact = λ k x m b e. sym (counter_early cap (suc l) s (key s (suc l) k x) i h);
  }

  -- ---- one place more

  level_next : (i L : ℕ) → L ≤ i
      → level cap s (suc i) L ≡ cond (found s (level cap s i) i L) (when_found cap s L (level cap s i L) i) (when_absent cap (level cap s i L) i)
  unfolding level
  level_next i L h = rw (le-ltb i L h)

  -- what place i makes of level l + 1: it is counted by both rules, or left out by the general ones
  data Turn (l i : ℕ) : Level → Type 0 where
    taken : (n : ℕ) → counter cap (suc l) s (pair (suc l) s i) (suc i) ≡ suc (counter cap (suc l) s (pair (suc l) s i) i)
        → min (distinct (suc l) s (suc i)) cap ≡ min (distinct (suc l) s i) cap + n → Turn l i (counting (level cap s i (suc l)) i n)
    left : cap ≤ distinct (suc l) s i → (heard cap s l i i ≡ true → counter cap (suc l) s (pair (suc l) s i) i ≡ 0) → Turn l i (level cap s i (suc l))

  module _ (bits : Bits s) where
    module _ (i : ℕ) (a : (l : ℕ) → Agrees l i (level cap s i (suc l))) where
      -- the levels that are found are those that are heard
      pub found_is : (L : ℕ) → found s (level cap s i) i L ≡ heard cap s L i i
      unfolding found heard
      found_is zero = refl
      found_is (suc l) = tested (heard cap s l i i)
          (λ t. rw (
            found_is l,
            present_is s bits (suc l) (level cap s i (suc l)).places i,
            (a l).exact i 0 (omega arith) (omega arith) t,
            (a l).exact i 1 (omega arith) (omega arith) t,
          ))
          (λ t. rw (found_is l, t))

      module _ (l : ℕ) (late : suc l ≤ i) where
        abbrev v : Level
        v = level cap s i (suc l)

        -- the count of the pair at place i
        abbrev here : ℕ
        here = counter cap (suc l) s (pair (suc l) s i) i

        first : here ≡ 0 → v.entries < cap → Turn l i (counting v i 1)
        first z r =
            let d : distinct (suc l) s i < cap = omega (arith, (a l).entries_are) in
            taken 1 (counter_first cap (suc l) s i late z d ∙ ap suc (sym z)) (omega (arith, stored_first cap (suc l) s i late z d))

        again : 0 < here → Turn l i (counting v i 0)
        again p = taken 0 (counter-again cap (suc l) s i late p) (omega (arith, stored-again cap (suc l) s i late p))

        out : cap ≤ v.entries → (heard cap s l i i ≡ true → here ≡ 0) → Turn l i v
        out r z = left (omega (arith, (a l).entries_are)) z

        when_found_lem : heard cap s (suc l) i i ≡ true → Turn l i (when_found cap s (suc l) v i)
        unfolding when_found
        when_found_lem t =
            let e : count s (suc l) v.places i (get_or s i 0) ≡ here =
            rw (pair_is s (suc l) i) ((a l).exact i (get_or s i 0) (omega arith) (bits i) (heard_below cap s l i i t)) in
            rw e (tested (eqb here 0)
            (λ u. tested (ltb v.entries cap)
            (λ w. rw (u, w) (first (eqb-true _ _ u) (ltb-true _ _ w)))
            (λ w. rw (u, w) (out (ltb-false _ _ w) (λ g. eqb-true _ _ u))))
            (λ u. let n : here ≡ 0 → ⊥ = eqb-false _ _ u in rw u (again (omega arith))))

        when_absent_lem : heard cap s (suc l) i i ≡ false → Turn l i (when_absent cap v i)
        unfolding when_absent
        when_absent_lem t = tested (ltb v.entries cap)
            (λ w. let r : v.entries < cap = ltb-true _ _ w in
            let z : occurs (suc l) s (pair (suc l) s i) i ≡ 0 =
            rw (pair_is s (suc l) i)
            (since_new s bits cap (suc l) i (unheard cap s bits (suc l) i t) (omega (arith, (a l).entries_are)) (get_or s i 0) (bits i)) in
            rw w (first (counter_none cap (suc l) s (pair (suc l) s i) i z) r))
            (λ w. rw w (out (ltb-false _ _ w)
            (λ g. rw (pair_is s (suc l) i) (omega (arith, heard_not cap s l i i g t, bit_le cap s (suc l) i i (get_or s i 0) (bits i))))))

        turn : Turn l i (level cap s (suc i) (suc l))
        turn = rw (level_next i (suc l) late, found_is (suc l)) (tested (heard cap s (suc l) i i)
            (λ t. rw t (when_found_lem t))
            (λ t. rw t (when_absent_lem t)))

        module _ (k x : ℕ) (m : suc i ≤ k) (b : x < 2) where
          abbrev counted : ℕ → ℕ
          counted j = counter cap (suc l) s (key s (suc l) k x) j

          -- a level that begins to be heard had counted nothing
          fresh : heard cap s l k i ≡ false → heard cap s l k (suc i) ≡ true → counted i ≡ 0
          fresh f e = counter_none cap (suc l) s (key s (suc l) k x) i (omega (arith, occurs_down s bits l k x b i, woken cap s bits l k i f e x b))

          ready : heard cap s l k (suc i) ≡ true → count s (suc l) v.places k x ≡ counted i
          ready e = tested (heard cap s l k i)
              (λ t. (a l).exact k x (omega arith) b t)
              (λ t. omega (arith, fresh t e, (a l).under k x (omega arith) b))

          both_count : counter cap (suc l) s (pair (suc l) s i) (suc i) ≡ suc here
              → count s (suc l) (i ∷ v.places) k x + counted i ≡ count s (suc l) v.places k x + counted (suc i)
          both_count g = tested (eqb (pair (suc l) s i) (key s (suc l) k x))
              (λ t. let e : pair (suc l) s i ≡ key s (suc l) k x = eqb-true _ _ t in
              let g' : counted (suc i) ≡ suc (counted i) = rw e at g in
              omega (arith, count_in s bits (suc l) v.places i k x late (omega arith) b e))
              (λ t. omega (
                arith,
                count_out s bits (suc l) v.places i k x late (omega arith) b (eqb-false _ _ t),
                counter_other cap (suc l) s (key s (suc l) k x) i (eqb-false _ _ t),
              ))

          -- a full level leaves out only what has no count, of a context that is heard
          none_more : cap ≤ distinct (suc l) s i → (heard cap s l i i ≡ true → here ≡ 0) → heard cap s l k (suc i) ≡ true → counted (suc i) ≡ counted i
          none_more r z h = tested (eqb (pair (suc l) s i) (key s (suc l) k x))
              (λ t. let e : pair (suc l) s i ≡ key s (suc l) k x = eqb-true _ _ t in
              let c : context l s i ≡ context l s k = context_down s l i k (omega (arith, pair_is s (suc l) i, bits i)) in
              let n : here ≡ 0 = tested (heard cap s l k i) (λ u. z (heard_same cap s l i k i c ∙ u)) (λ u. rw e (fresh u h)) in
              let n' : counted i ≡ 0 = rw e at n in
              let f : counted (suc i) ≡ 0 = rw e at (counter_full cap (suc l) s i late n r) in
              f ∙ sym n')
              (λ t. counter_other cap (suc l) s (key s (suc l) k x) i (eqb-false _ _ t))

        next : (w : Level) → Turn l i w → Agrees l (suc i) w
        next _ (taken n g d) = record {
          entries_are = omega (arith, (a l).entries_are);
          under = λ k x m b. omega (arith, both_count k x m b g, (a l).under k x (omega arith) b);
          exact = λ k x m b e. omega (arith, both_count k x m b g, ready k x m b e);
        }
        next _ (left r z) = record {
          entries_are = omega (arith, (a l).entries_are, distinct_more (suc l) s i);
          under = λ k x m b. omega (arith, (a l).under k x (omega arith) b, counter_up cap (suc l) s (key s (suc l) k x) i);
          exact = λ k x m b e. ready k x m b e ∙ sym (none_more k x m b r z e);
        }

    pub agrees : (i l : ℕ) → Agrees l i (level cap s i (suc l))
    agrees zero l = rw (level_early 0 (suc l) (omega arith)) (early l 0 (omega arith))
    agrees (suc i) l = tested (ltb i (suc l))
        (λ t. rw (level_early (suc i) (suc l) (ltb-true _ _ t)) (early l (suc i) (ltb-true _ _ t)))
        (λ t. let h : suc l ≤ i = ltb-false _ _ t in next i (agrees i) l h (level cap s (suc i) (suc l)) (turn i (agrees i) l h))
