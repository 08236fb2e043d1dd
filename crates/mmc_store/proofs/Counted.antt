-- What is kept after a place was counted at one level: that place besides. Assumes nothing.
use Prim.Native.Nat.{ℕ, zero, suc, ◌+◌, ◌<◌, max}
use mathlib.Core.Path.{◌≡◌, refl, sym, ap, subst, fun_ext, ◌∙◌}
use mathlib.Core.List.{List, ◌∷◌}
use native.Mathlib.Omega.{arith}
use lib.ListN.{get_or, length, length-set}
use Rattle.table.specs.Inner.Table.{number, value, entry_of, valued}
use Rattle.table.proofs.Laws.{number_kept, found_kept, value_there}
use Rattle.mmc_store.specs.Inner.Words.{counts, bests, key_of, node, words, Keyed, Stores, Kept}
use Rattle.mmc_store.proofs.Nodes.{word_le, node_le, node_next, node_same, node_agree, node_apart}
use Rattle.mmc_store.proofs.Stored.{keyed_valued, stores_agree, count_stores}
use Rattle.mmc_store.proofs.Kept.{by_level, kept_long, kept_few}

-- what stays once a place was counted
pub record Recounted (N : ℕ) (s : List ℕ) (h' T T' : ℕ → List ℕ) : Type 0 where
  pub kept : Kept N s h' T'
  pub nodes : (d j : ℕ) → node T' s d j ≡ node T s d j
  pub numbers : (j : ℕ) → number (T' j) ≡ number (T j)

-- place i is counted at level l: c + 1 is the number of its context, p + 1 that of its pair, and n how often that was counted before
module _ {N : ℕ} {s : List ℕ} {h T : ℕ → List ℕ} (w : Kept N s h T) (bytes : (j : ℕ) → get_or s j 0 < 256) (l i : ℕ) (hl : l < N)
    (c : ℕ) (c_is : node T s l i ≡ suc c) (p : ℕ) (p_is : node T s (suc l) (suc i) ≡ suc p) (n : ℕ) (n_is : n ≡ value (T (suc l)) counts (suc p))
    (h' T' : ℕ → List ℕ)
    (pair : T' (suc l) ≡ valued (T (suc l)) counts (suc p) (n + 1))
    (context : T' l ≡ valued (T l) bests (suc c) (max (value (T l) bests (suc c)) (key_of (n + 1) (get_or s i 0))))
    (others : (j : ℕ) → (j ≡ l → ⊥) → (j ≡ suc l → ⊥) → T' j ≡ T j)
    (place : h' l ≡ i ∷ h l) (rest : (j : ℕ) → (j ≡ l → ⊥) → h' j ≡ h j) where
  abbrev v : ℕ
  v = max (value (T l) bests (suc c)) (key_of (n + 1) (get_or s i 0))

  -- ---- each table is as it was, but for one value
  finds : (j q : ℕ) → entry_of (T' j) q ≡ entry_of (T j) q
  finds =
      by_level (λ j. (q : ℕ) → entry_of (T' j) q ≡ entry_of (T j) q) l
      (λ q. ap (λ (m : List ℕ). entry_of m q) context ∙ found_kept (T l) bests (suc c) v (omega arith) q)
      (λ q. ap (λ (m : List ℕ). entry_of m q) pair ∙ found_kept (T (suc l)) counts (suc p) (n + 1) (omega arith) q)
      (λ j f g q. ap (λ (m : List ℕ). entry_of m q) (others j f g))

  count_node : (d j : ℕ) → node T' s d j ≡ node T s d j
  count_node d j = node_agree T s T' d j (λ a g q. finds (suc a) q)

  count_number : (j : ℕ) → number (T' j) ≡ number (T j)
  count_number =
      by_level (λ j. number (T' j) ≡ number (T j)) l
      (ap number context ∙ number_kept (T l) bests (suc c) v)
      (ap number pair ∙ number_kept (T (suc l)) counts (suc p) (n + 1))
      (λ j f g. ap number (others j f g))

  count_words : (d : ℕ) → words T' d ≡ words T d
  unfolding words
  count_words zero = refl
  count_words (suc d) = count_number (suc d)

  long : (j : ℕ) → length (T' j) ≡ length (T j)
  long =
      by_level (λ j. length (T' j) ≡ length (T j)) l (ap length context ∙ simp length-set) (ap length pair ∙ simp length-set)
      (λ j f g. ap length (others j f g))

  -- the context is an entry, unless it is a single symbol
  context_in : (d : ℕ) → l ≡ suc d → c < number (T l)
  context_in d e = subst (λ (l : ℕ). node T s l i ≡ suc c → c < number (T l)) (sym e) (λ q. omega (arith, word_le T s d i)) c_is

  keyed : (j d a : ℕ) → j ≡ suc d → Keyed a (T j) → Keyed a (T' j)
  keyed =
      by_level (λ j. (d a : ℕ) → j ≡ suc d → Keyed a (T j) → Keyed a (T' j)) l
      (λ d a e t. subst (Keyed a) (sym context) (keyed_valued t bests c v (omega arith) (context_in d e)))
      (λ d a e t. subst (Keyed a) (sym pair) (keyed_valued t counts p (n + 1) (omega arith) (omega (arith, word_le T s l (suc i)))))
      (λ j f g d a e t. subst (Keyed a) (sym (others j f g)) t)

  -- ---- level l
  stored_here : Stores s (suc l) (h' l) (node T' s l) (T' l) (T' (suc l))
  stored_here =
      rw (place, context, pair)
      (subst (λ (at : ℕ → ℕ). Stores s (suc l) (i ∷ h l) at (valued (T l) bests (suc c) v) (valued (T (suc l)) counts (suc p) (n + 1)))
      (sym (fun_ext (count_node l)))
      (count_stores (w.stores l hl) i (node_same T s l i) bytes c c_is (λ j q. node_apart N T s w.trie bytes l i j c (omega arith) c_is q)
      (kept_long w l (omega arith)) (omega (arith, node_le T s bytes l i, kept_few w l (omega arith))) (w.trie l hl).table p n
      (ap (λ (a : ℕ). entry_of (T (suc l)) (key_of a (get_or s i 0))) (sym c_is) ∙ sym (node_next T s l i) ∙ p_is) n_is))

  -- ---- the other levels: what they keep in the same tables stands in the other column
  best_kept : (d : ℕ) → (d ≡ l → ⊥) → (e : ℕ) → value (T' d) bests e ≡ value (T d) bests e
  best_kept =
      by_level (λ d. (d ≡ l → ⊥) → (e : ℕ) → value (T' d) bests e ≡ value (T d) bests e) l
      (λ f. absurd (f refl))
      (λ f e. ap (λ (m : List ℕ). value m bests e) pair ∙ value_there (T (suc l)) counts (suc p) (n + 1) bests e (λ z. omega arith))
      (λ d f g _ e. ap (λ (m : List ℕ). value m bests e) (others d f g))

  times_kept : (d : ℕ) → (d ≡ suc l → ⊥) → (e : ℕ) → value (T' d) counts e ≡ value (T d) counts e
  times_kept =
      by_level (λ d. (d ≡ suc l → ⊥) → (e : ℕ) → value (T' d) counts e ≡ value (T d) counts e) l
      (λ f e. ap (λ (m : List ℕ). value m counts e) context ∙ value_there (T l) bests (suc c) v counts e (λ z. omega arith))
      (λ f. absurd (f refl))
      (λ d f g _ e. ap (λ (m : List ℕ). value m counts e) (others d f g))

  stored_there : (d : ℕ) → (d ≡ l → ⊥) → d < N → Stores s (suc d) (h' d) (node T' s d) (T' d) (T' (suc d))
  stored_there d f a =
      rw (rest d f)
      (stores_agree (w.stores d a) (node T' s d) (T' d) (T' (suc d))
      (λ j x. times_kept (suc d) (λ z. f (omega arith)) _
      ∙ ap (value (T (suc d)) counts) (finds (suc d) _ ∙ ap (λ (e : ℕ). entry_of (T (suc d)) (key_of e x)) (count_node d j)))
      (λ j. best_kept d f (node T' s d j) ∙ ap (value (T d) bests) (count_node d j)))

  pub recounted : Recounted N s h' T T'
  recounted = record {
    kept = record {
      root = long 0 ∙ w.root;
      trie = λ d a. rw (count_words d) (keyed (suc d) d (words T d) refl (w.trie d a));
      stores = by_level (λ d. d < N → Stores s (suc d) (h' d) (node T' s d) (T' d) (T' (suc d))) l (λ a. stored_here)
          (stored_there (suc l) (λ z. omega arith)) (λ d f g. stored_there d f);
      closed = λ d j a z. count_node (suc d) j ∙ w.closed d j a (sym (count_node d j) ∙ z);
    };
    nodes = count_node;
    numbers = count_number;
  }
