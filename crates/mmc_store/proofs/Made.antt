-- What is kept after a word was made that has no count yet, or that was there already: all that was kept before. Where it is missing then, it
-- could not be made. Assumes nothing.
use Prim.Native.Nat.{ℕ, zero, suc, ◌+◌, ◌-◌, ◌≤◌, ◌<◌}
use mathlib.Core.Path.{◌≡◌, refl, sym, ap, ap₂, subst, fun_ext, ◌∙◌}
use mathlib.Core.Logic.{◌⊎◌, inl, inr}
use mathlib.Core.Bool.{Bool, true, false, cond}
use mathlib.Core.List.{List}
use native.Mathlib.Omega.{arith}
use native.Mathlib.Decide.{ℕ_discrete, dec_lt}
use lib.ListN.{get_or, length}
use Rattle.table.specs.Inner.Table.{number, value, entry_of, room, added, grown, key_limit}
use Rattle.table.proofs.Laws.{number_more, grown_new, grown_there, grown_full}
use Rattle.mmc_store.specs.Counts.{same}
use Rattle.mmc_store.specs.Inner.Words.{counts, bests, key_of, node, words, Keyed, Stores, Kept}
use Rattle.mmc_store.proofs.Same.{same_refl, same_shorter}
use Rattle.mmc_store.proofs.Nodes.{node_le, node_next, node_same, node_below, node_here, node_above}
use Rattle.mmc_store.proofs.Stored.{keyed_more, keyed_added, stores_agree, pair_made, way_stores}
use Rattle.mmc_store.proofs.Kept.{by_level, kept_few}

-- what stays once the word of l + 2 symbols before place i + 1 was looked up, and made where it was missing, if there was room
pub record Grew (N : ℕ) (s : List ℕ) (h T : ℕ → List ℕ) (l i : ℕ) (T' : ℕ → List ℕ) : Type 0 where
  pub kept : Kept N s h T'
  pub others : (d j : ℕ) → d ≤ N → (d ≡ suc l → ⊥) → node T' s d j ≡ node T s d j
  pub there : (j : ℕ) → (node T s (suc l) j ≡ 0 → ⊥) → node T' s (suc l) j ≡ node T s (suc l) j
  pub more : (number (T' (suc l)) ≡ number (T (suc l))) ⊎ ((node T s (suc l) (suc i) ≡ 0) × (number (T' (suc l)) ≡ suc (number (T (suc l)))))

-- nothing was made
pub grew_not : {N : ℕ} {s : List ℕ} {h T : ℕ → List ℕ} (l i : ℕ) → Kept N s h T → Grew N s h T l i T
grew_not l i w = record { kept = w; others = λ d j a g. refl; there = λ j g. refl; more = inl refl }

module _ {N : ℕ} {s : List ℕ} {h T : ℕ → List ℕ} (w : Kept N s h T) (bytes : (j : ℕ) → get_or s j 0 < 256) (l i : ℕ) (hl : l < N)
    (parent : 1 ≤ node T s l i) where
  abbrev k : ℕ
  k = key_of (node T s l i) (get_or s i 0)

  short : words T l ≤ room
  short = kept_few w l (omega arith)

  pub limit : k < key_limit
  limit = omega (arith, node_le T s bytes l i, short, bytes i)

  -- ---- the word of l + 1 symbols before place i + 1 is made
  module _ (fits : number (T (suc l)) < room) (newer : 1 ≤ node T s l (suc i)) (new : node T s (suc l) (suc i) ≡ 0) (T' : ℕ → List ℕ)
      (here : T' (suc l) ≡ added (T (suc l)) (key_of (node T s l i) (get_or s i 0))) (others : (j : ℕ) → (j ≡ suc l → ⊥) → T' j ≡ T j) where
    way_here : (j : ℕ) → node T' s (suc l) j ≡ cond (same s (suc (suc l)) (suc i) j) (suc (number (T (suc l)))) (node T s (suc l) j)
    way_here = node_here N T s w.trie bytes l i hl parent new fits limit T' here others

    way_node : node T' s (suc l) (suc i) ≡ suc (number (T (suc l)))
    way_node = way_here (suc i) ∙ rw (same_refl s (suc (suc l)) (suc i))

    way_other : (d j : ℕ) → d ≤ N → (d ≡ suc l → ⊥) → node T' s d j ≡ node T s d j
    way_other d j hd f = go (dec_lt l d)
      where
        go : Dec (l < d) → node T' s d j ≡ node T s d j
        go (yes g) =
            let e : suc (suc l) + (d - suc (suc l)) ≡ d = omega arith in
            rw e at (node_above N T s w.trie bytes l i hl parent new fits limit T' here others (d - suc (suc l)) j (omega arith))
        go (no g) = node_below N T s w.trie bytes l i hl parent new fits limit T' here others d j (omega arith)

    missing : entry_of (T (suc l)) k ≡ 0
    missing = sym (node_next T s l i) ∙ new

    words_other : (d : ℕ) → (d ≡ suc l → ⊥) → words T' d ≡ words T d
    unfolding words
    words_other zero f = refl
    words_other (suc d) f = ap number (others (suc d) f)

    words_here : words T (suc l) ≤ words T' (suc l)
    unfolding words
    words_here = omega (arith, ap number here, number_more (w.trie l hl).table k fits missing limit)

    keyed : (d : ℕ) → d < N → Keyed (words T' d) (T' (suc d))
    keyed =
        by_level (λ d. d < N → Keyed (words T' d) (T' (suc d))) l
        (λ a. subst (λ (m : List ℕ). Keyed (words T' l) m) (sym here)
        (subst (λ (n : ℕ). Keyed n (added (T (suc l)) k)) (sym (words_other l (λ z. omega arith)))
        (keyed_added (w.trie l hl) (node T s l i) (get_or s i 0) (bytes i) parent (node_le T s bytes l i) short missing fits)))
        (λ a. keyed_more words_here
        (subst (λ (m : List ℕ). Keyed (words T (suc l)) m) (sym (others (suc (suc l)) (λ z. omega arith))) (w.trie (suc l) a)))
        (λ d f g a. rw (words_other d g, others (suc d) (λ z. f (omega arith))) (w.trie d a))

    -- the best of a word that was there
    best_kept : (d j : ℕ) → d ≤ N → (d ≡ suc l → ⊥) → value (T' d) bests (node T' s d j) ≡ value (T d) bests (node T s d j)
    best_kept d j a f = ap₂ (λ (m : List ℕ) (e : ℕ). value m bests e) (others d f) (way_other d j a f)

    -- the counts of level l: the pair that was made has none, as before
    times_kept :
        (j x : ℕ) → value (T' (suc l)) counts (entry_of (T' (suc l)) (key_of (node T' s l j) x)) ≡
        value (T (suc l)) counts (entry_of (T (suc l)) (key_of (node T s l j) x))
    times_kept j x =
        ap₂ (λ (m : List ℕ) (e : ℕ). value m counts (entry_of m (key_of e x))) here (way_other l j (omega arith) (λ z. omega arith))
        ∙ pair_made (w.trie l hl).table k fits missing limit (key_of (node T s l j) x)

    -- level l + 1: the context that was made has no best
    stored_next : suc l < N → Stores s (suc (suc l)) (h (suc l)) (node T' s (suc l)) (T' (suc l)) (T' (suc (suc l)))
    unfolding words
    stored_next a =
        subst (λ (m : List ℕ). Stores s (suc (suc l)) (h (suc l)) (node T' s (suc l)) m (T' (suc (suc l)))) (sym here)
        (subst (λ (m : List ℕ). Stores s (suc (suc l)) (h (suc l)) (node T' s (suc l)) (added (T (suc l)) k) m)
        (sym (others (suc (suc l)) (λ z. omega arith)))
        (way_stores (w.stores (suc l) a) (suc i) (node_same T s (suc l) (suc i)) (w.trie l hl).table (w.trie (suc l) a)
        (node_le T s bytes (suc l)) new k fits missing limit (node T' s (suc l)) way_here))

    stored : (d : ℕ) → d < N → Stores s (suc d) (h d) (node T' s d) (T' d) (T' (suc d))
    stored =
        by_level (λ d. d < N → Stores s (suc d) (h d) (node T' s d) (T' d) (T' (suc d))) l
        (λ a. stores_agree (w.stores l hl) (node T' s l) (T' l) (T' (suc l)) times_kept (λ j. best_kept l j (omega arith) (λ z. omega arith)))
        stored_next
        (λ d f g a. stores_agree (w.stores d a) (node T' s d) (T' d) (T' (suc d))
        (λ j x. ap₂ (λ (m : List ℕ) (e : ℕ). value m counts (entry_of m (key_of e x)))
        (others (suc d) (λ z. f (omega arith))) (way_other d j (omega arith) g))
        (λ j. best_kept d j (omega arith) g))

    -- the same word has the same newer symbols, which are there
    closed_here : (j : ℕ) → node T s l j ≡ 0 → node T' s (suc l) j ≡ 0
    closed_here j z = way_here j ∙ go (same s (suc (suc l)) (suc i) j) refl
      where
        go : (b : Bool) → same s (suc (suc l)) (suc i) j ≡ b → cond b (suc (number (T (suc l)))) (node T s (suc l) j) ≡ 0
        go true q =
            absurd (omega (arith, node_same T s l (suc i) j (same_shorter s (suc l) (suc i) j q)))
        go false q = w.closed l j hl z

    closed_next : (j : ℕ) → node T' s (suc l) j ≡ 0 → node T s (suc l) j ≡ 0
    closed_next j z = go (same s (suc (suc l)) (suc i) j) (sym (way_here j) ∙ z)
      where
        go : (b : Bool) → cond b (suc (number (T (suc l)))) (node T s (suc l) j) ≡ 0 → node T s (suc l) j ≡ 0
        go true q = absurd (omega arith)
        go false q = q

    shut : (d : ℕ) → (j : ℕ) → d < N → node T' s d j ≡ 0 → node T' s (suc d) j ≡ 0
    shut =
        by_level (λ d. (j : ℕ) → d < N → node T' s d j ≡ 0 → node T' s (suc d) j ≡ 0) l
        (λ j a z. closed_here j (sym (way_other l j (omega arith) (λ r. omega arith)) ∙ z))
        (λ j a z. way_other (suc (suc l)) j a (λ r. omega arith) ∙ w.closed (suc l) j a (closed_next j z))
        (λ d f g j a z. way_other (suc d) j a (λ r. f (omega arith)) ∙ w.closed d j a (sym (way_other d j (omega arith) g) ∙ z))

    way_kept : Kept N s h T'
    way_kept = record { root = ap length (others 0 (λ z. omega arith)) ∙ w.root; trie = keyed; stores = stored; closed = shut }

  -- ---- it is made where it is missing, if there is room
  module _ (newer : 1 ≤ node T s l (suc i)) (T' : ℕ → List ℕ)
      (here : T' (suc l) ≡ grown (T (suc l)) (key_of (node T s l i) (get_or s i 0))) (others : (j : ℕ) → (j ≡ suc l → ⊥) → T' j ≡ T j) where
    -- what was found: the tables that are left, and that the word is missing in them only where there was no room
    abbrev Found : Type 0
    Found = Grew N s h T l i T' × (node T' s (suc l) (suc i) ≡ 0 → room ≤ number (T (suc l)))

    stays : T' (suc l) ≡ T (suc l) → (node T s (suc l) (suc i) ≡ 0 → room ≤ number (T (suc l))) → Found
    stays e f =
        subst (λ (U : ℕ → List ℕ). Grew N s h T l i U × (node U s (suc l) (suc i) ≡ 0 → room ≤ number (T (suc l))))
        (sym (fun_ext (λ j. go j (ℕ_discrete j (suc l))))) (grew_not l i w, f)
      where
        go : (j : ℕ) → Dec (j ≡ suc l) → T' j ≡ T j
        go j (yes q) = subst (λ (j : ℕ). T' j ≡ T j) (sym q) e
        go j (no g) = others j g

    made : (z : node T s (suc l) (suc i) ≡ 0) (fits : number (T (suc l)) < room) → T' (suc l) ≡ added (T (suc l)) k → Found
    made z fits e = (
      record {
        kept = way_kept fits newer z T' e others;
        others = way_other fits newer z T' e others;
        there = λ j g. way_here fits newer z T' e others j ∙ go j g (same s (suc (suc l)) (suc i) j) refl;
        more = inr (z, ap number e ∙ number_more (w.trie l hl).table k fits (sym (node_next T s l i) ∙ z) limit);
      },
      λ y. absurd (omega (arith, way_node fits newer z T' e others)),
    )
      where
        go : (j : ℕ) → (node T s (suc l) j ≡ 0 → ⊥) → (b : Bool) → same s (suc (suc l)) (suc i) j ≡ b →
            cond b (suc (number (T (suc l)))) (node T s (suc l) j) ≡ node T s (suc l) j
        go j g true q = absurd (g (sym (node_same T s (suc l) (suc i) j q) ∙ z))
        go j g false q = refl

    pub grew : Found
    grew = go (ℕ_discrete (node T s (suc l) (suc i)) 0) (dec_lt (number (T (suc l))) room)
      where
        go : Dec (node T s (suc l) (suc i) ≡ 0) → Dec (number (T (suc l)) < room) → Found
        go (no f) e = stays (here ∙ grown_there (T (suc l)) k (λ z. f (node_next T s l i ∙ z))) (λ z. absurd (f z))
        go (yes z) (no f) = stays (here ∙ grown_full (T (suc l)) k (omega arith)) (λ y. omega arith)
        go (yes z) (yes a) = made z a (here ∙ grown_new (T (suc l)) k a (sym (node_next T s l i) ∙ z))
