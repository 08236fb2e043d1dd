-- The number of the symbols before a place: one for all places that have the same, and no other's. An entry that is made gives a number to one
-- word, and changes that of no other. Assumes nothing.
use Prim.Native.Nat.{ℕ, zero, suc, ◌+◌, ◌-◌, ◌≤◌, ◌<◌}
use mathlib.Core.Path.{◌≡◌, refl, sym, ap, ◌∙◌}
use mathlib.Core.Bool.{Bool, true, false, cond, ◌&&◌}
use mathlib.Core.List.{List}
use native.Mathlib.Omega.{arith}
use lib.ListN.{get_or}
use lib.Dec.{eqb}
use borrow.Author.Tests.{eqb-true, eq-eqb, ne_eqb}
use Rattle.table.specs.Inner.Table.{number, entry_of, room, key_limit, added}
use Rattle.table.proofs.Found.{found_within, found_key, found_once}
use Rattle.table.proofs.Laws.{found_after}
use Rattle.mmc_store.specs.Counts.{same}
use Rattle.mmc_store.specs.Inner.Words.{key_of, node, words, Keyed, Trie}
use Rattle.mmc_store.proofs.Same.{and_left, and_right, same_newest}

-- ---- keys
pub key_one : (c d x y : ℕ) → x < 256 → y < 256 → key_of c x ≡ key_of d y → (c ≡ d) × (x ≡ y)
key_one c d x y l h e = (omega arith, omega arith)

-- the number of a key that is there is from 1 to n
pub key_number : {n : ℕ} {m : List ℕ} → Keyed n m → (c x e : ℕ) → x < 256 → entry_of m (key_of c x) ≡ suc e → (1 ≤ c) × (c ≤ n)
key_number {n} {m} k c x e l h =
    let w : e < number m = omega (arith, found_within m (key_of c x)) in
    (omega (arith, found_key m (key_of c x) e h, k.from e w), omega (arith, found_key m (key_of c x) e h, k.to e w))

-- a key of no number from 1 to n is not there
pub no_key : {n : ℕ} {m : List ℕ} → Keyed n m → (c x : ℕ) → x < 256 → ((1 ≤ c) × (c ≤ n) → ⊥) → entry_of m (key_of c x) ≡ 0
no_key {n} {m} k c x l f = go (entry_of m (key_of c x)) refl
  where
    go : (e : ℕ) → entry_of m (key_of c x) ≡ e → entry_of m (key_of c x) ≡ 0
    go zero h = h
    go (suc e) h = absurd (f (key_number k c x e l h))

-- ---- words
module _ (T : ℕ → List ℕ) (s : List ℕ) where
  pub word_le : (l i : ℕ) → node T s (suc l) i ≤ number (T (suc l))
  unfolding node
  word_le l i = found_within (T (suc l)) (key_of (node T s l (i - 1)) (get_or s (i - 1) 0))

  pub node_le : ((j : ℕ) → get_or s j 0 < 256) → (l i : ℕ) → node T s l i ≤ words T l
  unfolding node words
  node_le bytes zero i = omega (arith, bytes (i - 1))
  node_le bytes (suc l) i = word_le l i

  -- the pair of a context and the symbol that follows it is the context of the next place
  pub node_next : (l i : ℕ) → node T s (suc l) (suc i) ≡ entry_of (T (suc l)) (key_of (node T s l i) (get_or s i 0))
  unfolding node
  node_next l i = let e : suc i - 1 ≡ i = omega arith in rw e

  pub node_same : (l i j : ℕ) → same s (suc l) i j ≡ true → node T s l i ≡ node T s l j
  unfolding node same
  node_same zero i j h = ap suc (eqb-true _ _ (and_left (eqb (get_or s (i - 1) 0) (get_or s (j - 1) 0)) true h))
  node_same (suc l) i j h =
      let q : (eqb (get_or s (i - 1) 0) (get_or s (j - 1) 0) && same s (suc l) (i - 1) (j - 1)) ≡ true = sym (same_newest s (suc l) i j) ∙ h in
      let a : get_or s (i - 1) 0 ≡ get_or s (j - 1) 0 = eqb-true _ _ (and_left (eqb (get_or s (i - 1) 0) (get_or s (j - 1) 0)) (same s (suc l) (i - 1) (j - 1)) q) in
      rw (a, node_same l (i - 1) (j - 1) (and_right (eqb (get_or s (i - 1) 0) (get_or s (j - 1) 0)) (same s (suc l) (i - 1) (j - 1)) q))

  -- tables that find the same number the words alike
  pub node_agree :
      (T' : ℕ → List ℕ) (l i : ℕ) → ((j : ℕ) → j < l → (k : ℕ) → entry_of (T' (suc j)) k ≡ entry_of (T (suc j)) k) → node T' s l i ≡ node T s l i
  unfolding node
  node_agree T' zero i f = refl
  node_agree T' (suc l) i f =
      rw (node_agree T' l (i - 1) (λ j h. f j (omega arith))) (f l (omega arith) (key_of (node T s l (i - 1)) (get_or s (i - 1) 0)))

module _ (n : ℕ) (T : ℕ → List ℕ) (s : List ℕ) (t : Trie n T) (bytes : (j : ℕ) → get_or s j 0 < 256) where
  -- the newest symbol before a place, and the key of the l + 1 symbols before it
  abbrev sy : ℕ → ℕ
  sy i = get_or s (i - 1) 0

  abbrev ky : ℕ → ℕ → ℕ
  ky l i = key_of (node T s l (i - 1)) (sy i)

  -- two places whose words have one number have one word
  pub node_apart : (l i j e : ℕ) → l ≤ n → node T s l i ≡ suc e → node T s l j ≡ suc e → same s (suc l) i j ≡ true
  unfolding node same
  node_apart zero i j e h p q = rw (eq-eqb (get_or s (i - 1) 0) (get_or s (j - 1) 0) (omega arith))
  node_apart (suc l) i j e h p q =
      same_newest s (suc l) i j
      ∙ go (node T s l (i - 1)) refl
      (key_one (node T s l (i - 1)) (node T s l (j - 1)) (sy i) (sy j) (bytes (i - 1)) (bytes (j - 1)) (found_once (T (suc l)) (ky l i) (ky l j) e p q))
      (key_number (t l h) (node T s l (i - 1)) (sy i) e (bytes (i - 1)) p)
      (λ d. node_apart l (i - 1) (j - 1) d (omega arith))
    where
      go : (c : ℕ) → node T s l (i - 1) ≡ c → (node T s l (i - 1) ≡ node T s l (j - 1)) × (sy i ≡ sy j) →
          (1 ≤ node T s l (i - 1)) × (node T s l (i - 1) ≤ words T l) →
          ((d : ℕ) → node T s l (i - 1) ≡ suc d → node T s l (j - 1) ≡ suc d → same s (suc l) (i - 1) (j - 1) ≡ true) →
          (eqb (sy i) (sy j) && same s (suc l) (i - 1) (j - 1)) ≡ true
      go zero r k b ih = absurd (omega arith)
      go (suc d) r k b ih = rw (eq-eqb (sy i) (sy j) k.1) (ih d r (sym k.0 ∙ r))

  -- the word of l + 1 symbols before place i + 1 is made
  module _ (l i : ℕ) (hl : l < n) (parent : 1 ≤ node T s l i) (new : node T s (suc l) (suc i) ≡ 0) (fits : number (T (suc l)) < room)
      (small : key_of (node T s l i) (get_or s i 0) < key_limit)
      (T' : ℕ → List ℕ) (here : T' (suc l) ≡ added (T (suc l)) (key_of (node T s l i) (get_or s i 0)))
      (others : (j : ℕ) → (j ≡ suc l → ⊥) → T' j ≡ T j) where
    abbrev k : ℕ
    k = key_of (node T s l i) (get_or s i 0)

    pub node_below : (d j : ℕ) → d ≤ l → node T' s d j ≡ node T s d j
    node_below d j h = node_agree T s T' d j (λ e g k. ap (λ (m : List ℕ). entry_of m k) (others (suc e) (omega arith)))

    at_found : (q : ℕ) → entry_of (T' (suc l)) q ≡ cond (eqb k q) (suc (number (T (suc l)))) (entry_of (T (suc l)) q)
    at_found q = ap (λ (m : List ℕ). entry_of m q) here ∙ found_after (t l hl).table k fits (sym (node_next T s l i) ∙ new) small q

    -- its key is that of the same words, and no other's
    key_is : (j c : ℕ) → node T s l i ≡ c → (a b : Bool) → eqb (get_or s i 0) (sy j) ≡ a → same s (suc l) i (j - 1) ≡ b → eqb k (ky l j) ≡ (a && b)
    key_is j zero r a b p q = absurd (omega arith)
    key_is j (suc c) r true true p q = eq-eqb k (ky l j) (rw (node_same T s l i (j - 1) q, eqb-true (get_or s i 0) (sy j) p))
    key_is j (suc c) r true false p q =
        ne_eqb k (ky l j)
        (λ e. (let w = key_one (node T s l i) (node T s l (j - 1)) (get_or s i 0) (sy j) (bytes i) (bytes (j - 1)) e in
        let u = node_apart l i (j - 1) c (omega arith) r (sym w.0 ∙ r) in let z : ◌≡◌ {A = ℕ} 0 1 = cc in omega arith))
    key_is j (suc c) r false b p q =
        ne_eqb k (ky l j)
        (λ e. (let w = key_one (node T s l i) (node T s l (j - 1)) (get_or s i 0) (sy j) (bytes i) (bytes (j - 1)) e in
        let u = eq-eqb (get_or s i 0) (sy j) w.1 in let z : ◌≡◌ {A = ℕ} 0 1 = cc in omega arith))

    pub node_here : (j : ℕ) → node T' s (suc l) j ≡ cond (same s (suc (suc l)) (suc i) j) (suc (number (T (suc l)))) (node T s (suc l) j)
    unfolding node
    node_here j =
        let e : suc i - 1 ≡ i = omega arith in
        ap (λ (c : ℕ). entry_of (T' (suc l)) (key_of c (sy j))) (node_below l (j - 1) (omega arith)) ∙ at_found (ky l j)
        ∙ ap (λ (b : Bool). cond b (suc (number (T (suc l)))) (entry_of (T (suc l)) (ky l j)))
        (key_is j (node T s l i) refl (eqb (get_or s i 0) (sy j)) (same s (suc l) i (j - 1)) refl refl ∙ rw e at (sym (same_newest s (suc l) (suc i) j)))

    -- no longer word changes: none has the new number before it
    next_up : (j : ℕ) → suc l < n → node T' s (suc (suc l)) j ≡ node T s (suc (suc l)) j
    unfolding node words
    next_up j h =
        ap (λ (m : List ℕ). entry_of m (key_of (node T' s (suc l) (j - 1)) (sy j))) (others (suc (suc l)) (omega arith))
        ∙ go (same s (suc (suc l)) (suc i) (j - 1)) refl
      where
        after : (c : ℕ) → node T' s (suc l) (j - 1) ≡ c →
            entry_of (T (suc (suc l))) (key_of (node T' s (suc l) (j - 1)) (sy j)) ≡ entry_of (T (suc (suc l))) (key_of c (sy j))
        after c e = ap (λ (c : ℕ). entry_of (T (suc (suc l))) (key_of c (sy j))) e

        go : (b : Bool) → same s (suc (suc l)) (suc i) (j - 1) ≡ b →
            entry_of (T (suc (suc l))) (key_of (node T' s (suc l) (j - 1)) (sy j)) ≡ entry_of (T (suc (suc l))) (ky (suc l) j)
        go false q = after (node T s (suc l) (j - 1)) (node_here (j - 1) ∙ rw q)
        go true q =
            after (suc (number (T (suc l)))) (node_here (j - 1) ∙ rw q)
            ∙ no_key (t (suc l) h) (suc (number (T (suc l)))) (sy j) (bytes (j - 1)) (λ w. omega arith)
            ∙ sym (no_key (t (suc l) h) (node T s (suc l) (j - 1)) (sy j) (bytes (j - 1))
            (λ w. (let z : node T s (suc l) (j - 1) ≡ 0 = sym (node_same T s (suc l) (suc i) (j - 1) q) ∙ new in omega arith)))

    longer : (a j : ℕ) → ((j : ℕ) → node T' s a j ≡ node T s a j) → T' (suc a) ≡ T (suc a) → node T' s (suc a) j ≡ node T s (suc a) j
    unfolding node
    longer a j p q = rw (p (j - 1), q)

    pub node_above : (d j : ℕ) → suc (suc l) + d ≤ n → node T' s (suc (suc l) + d) j ≡ node T s (suc (suc l) + d) j
    node_above zero j h = let e : suc (suc l) + 0 ≡ suc (suc l) = omega arith in rw e (next_up j (omega arith))
    node_above (suc d) j h =
        let e : suc (suc l) + suc d ≡ suc (suc (suc l) + d) = omega arith in
        rw e (longer (suc (suc l) + d) j (λ j. node_above d j (omega arith)) (others (suc (suc (suc l) + d)) (omega arith)))
