-- What the tables of one level keep: after a word was made, as a pair of the level or as a context of it, and after a place was counted.
-- Assumes nothing.
use Prim.Native.Nat.{ℕ, suc, ◌+◌, ◌*◌, ◌≤◌, ◌<◌, max}
use mathlib.Core.Path.{◌≡◌, refl, sym, ap, ◌∙◌}
use mathlib.Core.Bool.{Bool, true, false, cond, ◌&&◌}
use mathlib.Core.List.{List, ◌∷◌}
use native.Mathlib.Omega.{arith}
use native.Mathlib.Decide.{ℕ_discrete}
use lib.ListN.{get_or, length}
use lib.Dec.{eqb}
use borrow.Author.Tests.{eqb-true, eq-eqb, ne_eqb}
use Rattle.table.specs.Inner.Table.{Table, size, number, value, entry_of, room, added, valued, key_limit}
use Rattle.table.proofs.Found.{found_within, found_once}
use Rattle.table.proofs.Laws.{found_after, value_old, value_new, every_key, added_table}
use Rattle.table.proofs.Laws.{number_kept, value_here, value_there, key_kept, found_kept, valued_table}
use Rattle.mmc_store.specs.Counts.{same, count}
use Rattle.mmc_store.specs.Inner.Words.{counts, bests, key_of, best, Keyed, Stores}
use Rattle.mmc_store.proofs.Nodes.{key_one, no_key}
use Rattle.mmc_store.proofs.Best.{best_here, best_there}

-- ---- the keys of a table
-- more numbers
pub keyed_more : {n n' : ℕ} {m : List ℕ} → n ≤ n' → Keyed n m → Keyed n' m
keyed_more l k = record { table = k.table; from = k.from; to = λ e h. omega (arith, k.to e h) }

-- an entry whose number is there is made
pub keyed_added :
    {n : ℕ} {m : List ℕ} → Keyed n m → (c x : ℕ) → x < 256 → 1 ≤ c → c ≤ n → n ≤ room → entry_of m (key_of c x) ≡ 0 → number m < room →
    Keyed n (added m (key_of c x))
keyed_added {n} {m} k c x hx lo hi small new fits = record {
  table = added_table k.table (key_of c x) fits new (omega arith);
  from = every_key k.table (key_of c x) fits new (omega arith) (λ y. 256 ≤ y) (omega arith) k.from;
  to = every_key k.table (key_of c x) fits new (omega arith) (λ y. y < 256 * suc n) (omega arith) k.to;
}

-- an entry has another value
pub keyed_valued : {n : ℕ} {m : List ℕ} → Keyed n m → (j e v : ℕ) → j < 2 → e < number m → Keyed n (valued m j (suc e) v)
keyed_valued {n} {m} k j e v h a = record {
  table = valued_table m j (suc e) v h k.table (omega arith) a;
  from = λ d l. rw (key_kept m j (suc e) v h (suc d)) (k.from d (omega (arith, number_kept m j (suc e) v)));
  to = λ d l. rw (key_kept m j (suc e) v h (suc d)) (k.to d (omega (arith, number_kept m j (suc e) v)));
}

-- ---- tables that keep the same
pub stores_agree :
    {s : List ℕ} {L : ℕ} {h : List ℕ} {at : ℕ → ℕ} {c p : List ℕ} → Stores s L h at c p → (at' : ℕ → ℕ) (c' p' : List ℕ) →
    ((i x : ℕ) → value p' counts (entry_of p' (key_of (at' i) x)) ≡ value p counts (entry_of p (key_of (at i) x))) →
    ((i : ℕ) → value c' bests (at' i) ≡ value c bests (at i)) → Stores s L h at' c' p'
stores_agree w at' c' p' f g =
    record { counts_are = λ i x l. w.counts_are i x l ∙ sym (f i x); bests_are = λ i. w.bests_are i ∙ sym (g i) }

-- ---- the pair of the key k is made, without a count
module _ {p : List ℕ} (t : Table p) (k : ℕ) (fits : number p < room) (new : entry_of p k ≡ 0) (small : k < key_limit) where
  pub pair_made : (q : ℕ) → value (added p k) counts (entry_of (added p k) q) ≡ value p counts (entry_of p q)
  pair_made q = ap (value (added p k) counts) (found_after t k fits new small q) ∙ go (eqb k q) refl
    where
      go : (b : Bool) → eqb k q ≡ b → value (added p k) counts (cond b (suc (number p)) (entry_of p q)) ≡ value p counts (entry_of p q)
      go true e =
          value_new t k fits new small counts (omega arith) ∙ sym (t.none counts (omega arith))
          ∙ ap (value p counts) (sym new ∙ ap (entry_of p) (eqb-true k q e))
      go false e = value_old t k fits new small counts (entry_of p q) (omega arith) (found_within p q)

-- ---- the pair of the key k, which has the number d + 1, is counted once more
module _ {p : List ℕ} (t : Table p) (k d n : ℕ) (is : entry_of p k ≡ suc d) (n_is : n ≡ value p counts (suc d)) where
  abbrev p'' : List ℕ
  p'' = valued p counts (suc d) (n + 1)

  pair_counted : (q : ℕ) → value p'' counts (entry_of p'' q) ≡ value p counts (entry_of p q) + cond (eqb k q) 1 0
  pair_counted q = ap (value p'' counts) (found_kept p counts (suc d) (n + 1) (omega arith) q) ∙ go (eqb k q) refl
    where
      go : (b : Bool) → eqb k q ≡ b → value p'' counts (entry_of p q) ≡ value p counts (entry_of p q) + cond b 1 0
      go true e =
          rw (sym (ap (entry_of p) (eqb-true k q e)) ∙ is)
          (value_here p counts (suc d) (n + 1) (omega arith) t.long (omega (arith, t.few, found_within p k)) ∙ ap (λ (a : ℕ). a + 1) n_is)
      go false e =
          value_there p counts (suc d) (n + 1) counts (entry_of p q)
          (λ r. (let a : entry_of p q ≡ suc d = omega arith in
          let u = eq-eqb k q (found_once p k q d is a) in let z : ◌≡◌ {A = ℕ} 0 1 = cc in omega arith))
          ∙ omega arith

module _ {s : List ℕ} {L : ℕ} {h : List ℕ} {at : ℕ → ℕ} {c p : List ℕ} (w : Stores s L h at c p) (i : ℕ)
    (one : (j : ℕ) → same s L i j ≡ true → at i ≡ at j) where
  -- ---- the context of i is made, without a count
  module _ (t : Table c) (keyed : Keyed (number c) p) (within : (j : ℕ) → at j ≤ number c) (new : at i ≡ 0) (k : ℕ) (fits : number c < room)
      (absent : entry_of c k ≡ 0) (small : k < key_limit)
      (at' : ℕ → ℕ) (at_is : (j : ℕ) → at' j ≡ cond (same s L i j) (suc (number c)) (at j)) where
    way_counts : (j x : ℕ) → x < 256 → (b : Bool) → same s L i j ≡ b → count s L h j x ≡ value p counts (entry_of p (key_of (at' j) x))
    way_counts j x l false q = w.counts_are j x l ∙ ap (λ (n : ℕ). value p counts (entry_of p (key_of n x))) (sym (at_is j ∙ rw q))
    way_counts j x l true q =
        let z : at j ≡ 0 = sym (one j q) ∙ new in
        w.counts_are j x l
        ∙ ap (value p counts) (no_key keyed (at j) x l (λ r. omega arith) ∙ sym (no_key keyed (suc (number c)) x l (λ r. omega arith)))
        ∙ ap (λ (n : ℕ). value p counts (entry_of p (key_of n x))) (sym (at_is j ∙ rw q))

    way_bests : (j : ℕ) (b : Bool) → same s L i j ≡ b → best s L h j ≡ value (added c k) bests (at' j)
    way_bests j false q =
        w.bests_are j ∙ sym (value_old t k fits absent small bests (at j) (omega arith) (within j))
        ∙ ap (value (added c k) bests) (sym (at_is j ∙ rw q))
    way_bests j true q =
        w.bests_are j ∙ ap (value c bests) (sym (one j q) ∙ new) ∙ t.none bests (omega arith)
        ∙ sym (value_new t k fits absent small bests (omega arith))
        ∙ ap (value (added c k) bests) (sym (at_is j ∙ rw q))

    pub way_stores : Stores s L h at' (added c k) p
    way_stores = record {
      counts_are = λ j x l. way_counts j x l (same s L i j) refl;
      bests_are = λ j. way_bests j (same s L i j) refl;
    }

  -- ---- the place i is counted: its context has the number e + 1, and its pair d + 1
  module _ (bytes : (j : ℕ) → get_or s j 0 < 256) (e : ℕ) (is : at i ≡ suc e) (apart : (j : ℕ) → at j ≡ suc e → same s L i j ≡ true)
      (long : length c ≡ size) (few : suc e ≤ room) (pairs : Table p) (d n : ℕ) (pair_is : entry_of p (key_of (suc e) (get_or s i 0)) ≡ suc d)
      (n_is : n ≡ value p counts (suc d)) where
    abbrev x : ℕ
    x = get_or s i 0

    abbrev kx : ℕ
    kx = key_of (suc e) x

    abbrev p' : List ℕ
    p' = valued p counts (suc d) (n + 1)

    abbrev v : ℕ
    v = max (value c bests (suc e)) (key_of (n + 1) x)

    abbrev c' : List ℕ
    c' = valued c bests (suc e) v

    key_is : (j y : ℕ) → y < 256 → (b : Bool) → same s L i j ≡ b → eqb kx (key_of (at j) y) ≡ (b && eqb x y)
    key_is j y l true q = rw (sym (one j q) ∙ is) (go (ℕ_discrete x y))
      where
        go : Dec (x ≡ y) → eqb kx (key_of (suc e) y) ≡ eqb x y
        go (yes r) = eq-eqb kx (key_of (suc e) y) (rw r) ∙ sym (eq-eqb x y r)
        go (no f) = ne_eqb kx (key_of (suc e) y) (λ r. f (key_one (suc e) (suc e) x y (bytes i) l r).1) ∙ sym (ne_eqb x y f)
    key_is j y l false q =
        ne_eqb kx (key_of (at j) y)
        (λ r. (let u = apart j (sym (key_one (suc e) (at j) x y (bytes i) l r).0) in let z : ◌≡◌ {A = ℕ} 0 1 = cc in omega arith))

    count_counts : (j y : ℕ) → y < 256 → count s L (i ∷ h) j y ≡ value p' counts (entry_of p' (key_of (at j) y))
    unfolding count
    count_counts j y l =
        rw (w.counts_are j y l, sym (key_is j y l (same s L i j) refl)) (sym (pair_counted pairs kx d n pair_is n_is (key_of (at j) y)))

    count_here : (j : ℕ) → same s L i j ≡ true → count s L (i ∷ h) j x ≡ n + 1
    unfolding count
    count_here j q = rw (q, eq-eqb x x refl, w.counts_are j x (bytes i), sym (one j q) ∙ is, pair_is, n_is)

    count_bests : (j : ℕ) (b : Bool) → same s L i j ≡ b → best s L (i ∷ h) j ≡ value c' bests (at j)
    count_bests j true q =
        best_here s L h i j (bytes i) q
        ∙ rw (count_here j q, w.bests_are j, sym (one j q) ∙ is) (sym (value_here c bests (suc e) v (omega arith) long few))
    count_bests j false q =
        best_there s L h i j q ∙ w.bests_are j
        ∙ sym (value_there c bests (suc e) v bests (at j)
        (λ r. (let a : at j ≡ suc e = omega arith in let u = apart j a in let z : ◌≡◌ {A = ℕ} 0 1 = cc in omega arith)))

    pub count_stores : Stores s L (i ∷ h) at c' p'
    count_stores = record { counts_are = count_counts; bests_are = λ j. count_bests j (same s L i j) refl }
