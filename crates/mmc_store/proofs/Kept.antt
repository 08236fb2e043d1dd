-- What is kept over all levels: its tables are of their size, a word that is missing is absent and has no longer one, and empty tables keep no
-- places. Assumes nothing.
use Prim.Native.Nat.{ℕ, zero, suc, ◌+◌, ◌-◌, ◌≤◌, ◌<◌}
use mathlib.Core.Path.{◌≡◌, sym, ap, subst, ◌∙◌}
use mathlib.Core.Bool.{false}
use mathlib.Core.List.{List, []}
use native.Mathlib.Omega.{arith}
use native.Mathlib.Decide.{ℕ_discrete}
use lib.ListN.{length, get_or}
use lib.Dec.{ltb}
use Rattle.table.specs.Inner.Table.{size, room, value, value_at, number_at, entry_of}
use Rattle.table.proofs.Laws.{empty_table}
use Rattle.mmc_store.specs.Counts.{present, count}
use Rattle.mmc_store.specs.Inner.Words.{counts, bests, key_of, node, words, best, Stores, Kept}
use Rattle.mmc_store.proofs.Best.{present_best}
use Rattle.mmc_store.proofs.Nodes.{word_le}

-- what holds of l, of l + 1 and of every other number holds of every number
pub by_level :
    (P : ℕ → Type 0) (l : ℕ) → P l → P (suc l) → ((d : ℕ) → (d ≡ l → ⊥) → (d ≡ suc l → ⊥) → P d) → (d : ℕ) → P d
by_level P l a b c d = go (ℕ_discrete d l) (ℕ_discrete d (suc l))
  where
    go : Dec (d ≡ l) → Dec (d ≡ suc l) → P d
    go (yes e) g = subst P (sym e) a
    go (no f) (yes e) = subst P (sym e) b
    go (no f) (no g) = c d f g

module _ {N : ℕ} {s : List ℕ} {h T : ℕ → List ℕ} (w : Kept N s h T) where
  pub kept_long : (l : ℕ) → l ≤ N → length (T l) ≡ size
  kept_long zero a = w.root
  kept_long (suc l) a = (w.trie l a).table.long

  pub kept_few : (l : ℕ) → l ≤ N → words T l ≤ room
  unfolding words
  kept_few zero a = omega arith
  kept_few (suc l) a = (w.trie l a).table.few

  pub kept_places : (h' : ℕ → List ℕ) → ((j : ℕ) → j < N → h' j ≡ h j) → Kept N s h' T
  kept_places h' f = record {
    root = w.root;
    trie = w.trie;
    stores = λ l a. subst (λ (g : List ℕ). Stores s (suc l) g (node T s l) (T l) (T (suc l))) (sym (f l a)) (w.stores l a);
    closed = w.closed;
  }

  -- a context that is missing is absent
  pub kept_absent : ((j : ℕ) → get_or s j 0 < 256) → (l i : ℕ) → l < N → node T s l i ≡ 0 → present s (suc l) (h l) i ≡ false
  unfolding node
  kept_absent bytes zero i a z = absurd (omega arith)
  kept_absent bytes (suc l) i a z =
      sym (present_best s (suc (suc l)) bytes (h (suc l)) i)
      ∙ ap (ltb 0) ((w.stores (suc l) a).bests_are i ∙ ap (value (T (suc l)) bests) z ∙ (w.trie l (omega arith)).table.none bests (omega arith))

  -- every longer word is missing then
  pub closed_up : (l i j : ℕ) → l ≤ j → j ≤ N → node T s l i ≡ 0 → node T s j i ≡ 0
  closed_up l i j a b z = let e : l + (j - l) ≡ j = omega arith in rw e at (go (j - l) (omega arith))
    where
      go : (d : ℕ) → l + d ≤ N → node T s (l + d) i ≡ 0
      go zero h = let e : l + 0 ≡ l = omega arith in rw e z
      go (suc d) h = let e : l + suc d ≡ suc (l + d) = omega arith in rw e (w.closed (l + d) i (omega arith) (go d (omega arith)))

-- ---- nothing was put in
module _ (N : ℕ) (s : List ℕ) (h T : ℕ → List ℕ) (clear : (j : ℕ) → j ≤ N → (length (T j) ≡ size) × ((a : ℕ) → get_or (T j) a 0 ≡ 0))
    (none : (l : ℕ) → h l ≡ []) where
  no_word : (l i : ℕ) → l < N → node T s (suc l) i ≡ 0
  no_word l i a = omega (arith, word_le T s l i, (clear (suc l) a).1 number_at)

  no_count : (l i x : ℕ) → count s (suc l) (h l) i x ≡ 0
  unfolding count
  no_count l i x = ap (λ (g : List ℕ). count s (suc l) g i x) (none l)

  no_best : (l i : ℕ) → best s (suc l) (h l) i ≡ 0
  unfolding best present
  no_best l i = ap (λ (g : List ℕ). best s (suc l) g i) (none l)

  pub empty_kept : Kept N s h T
  empty_kept = record {
    root = (clear 0 (omega arith)).0;
    trie = λ l a. record {
      table = empty_table (T (suc l)) (clear (suc l) a).0 (clear (suc l) a).1;
      from = λ e b. absurd (omega (arith, (clear (suc l) a).1 number_at));
      to = λ e b. absurd (omega (arith, (clear (suc l) a).1 number_at));
    };
    stores = λ l a. record {
      counts_are = λ i x b. no_count l i x ∙ sym ((clear (suc l) a).1 (value_at counts (entry_of (T (suc l)) (key_of (node T s l i) x))));
      bests_are = λ i. no_best l i ∙ sym ((clear l (omega arith)).1 (value_at bests (node T s l i)));
    };
    closed = λ l i a z. no_word l i a;
  }
