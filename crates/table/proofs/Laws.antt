-- What is found in a table, before and after an entry is made or has another value. Assumes nothing.
use Prim.Native.Nat.{ℕ, zero, suc, ◌+◌, ◌%◌, ◌≤◌, ◌<◌}
use mathlib.Core.Path.{◌≡◌, refl, sym, ap, subst, ◌∙◌}
use mathlib.Core.Logic.{◌⊎◌, inl, inr, ⊎_elim}
use mathlib.Core.Bool.{Bool, true, false, cond, ◌&&◌}
use mathlib.Core.List.{List}
use native.Mathlib.Omega.{arith}
use native.Mathlib.Decide.{ℕ_discrete, dec_lt}
use native.Mathlib.Numerals.{add-one}
use lib.ListN.{length, set, length-set}
use lib.Dec.{eqb, ltb}
use lib.Seq.{get_or-set_same, get_or-set_other}
use borrow.Author.Tests.{eqb-true, ltb-true, eq-eqb, ne_eqb, lt-ltb}
use Rattle.table.specs.Inner.Table.{size, room, trees, key_limit, number_at, key_at, link_at, value_at, get, number, key, value, newest, entry_of}
use Rattle.table.specs.Inner.Table.{digit, lead, slot_at, stop, Table, deepest, end_from, slot_of, Sought, written, added, grown, valued}
use Rattle.table.proofs.Found.{newest_same}
use Rattle.table.proofs.Walk.{slot_link, Behind, behind_next, behind_since, slot_range, one_slot, Ends, slot_ends}

-- ---- an entry is made
module _ {m : List ℕ} (t : Table m) (k : ℕ) (fits : number m < room) (new : entry_of m k ≡ 0) (small : k < key_limit) where
  -- the entry, the table that is left, and after how many steps a walk for the key had ended
  abbrev e' : ℕ
  e' = suc (number m)

  abbrev m' : List ℕ
  m' = added m k

  abbrev D : ℕ
  D = end_from m k deepest 0

  ends : Ends m k D
  ends = slot_ends t k small new

  -- the slot is a head, or a link of an entry that was there
  apart : (a : ℕ) → a ≡ slot_of m k → trees ≤ a → (3 ≤ a % 5) × (key_at 1 ≤ a) × (a < key_at e')
  apart a q h = let w = slot_range t k D a ends.1 q h in (slot_link m k D a q h, w.0, w.1)

  -- ---- what is read then
  abbrev m1 : List ℕ
  m1 = set m (key_at e') k

  abbrev m2 : List ℕ
  m2 = set m1 (slot_of m k) e'

  kept : (a : ℕ) → (a ≡ key_at e' → ⊥) → (a ≡ slot_of m k → ⊥) → (a ≡ number_at → ⊥) → get m' a ≡ get m a
  unfolding added
  kept a f g h = get_or-set_other m2 number_at a e' 0 h ∙ get_or-set_other m1 (slot_of m k) a e' 0 g ∙ get_or-set_other m (key_at e') a k 0 f

  pub number_more : number m' ≡ suc (number m)
  unfolding added
  number_more = get_or-set_same m2 number_at e' 0 (simp length-set (omega (arith, t.long)))

  slot_new : get m' (slot_of m k) ≡ e'
  unfolding added
  slot_new =
      get_or-set_other m2 number_at (slot_of m k) e' 0 (λ q. omega (arith, apart number_at (sym q) (omega arith)))
      ∙ get_or-set_same m1 (slot_of m k) e' 0 (simp length-set (within (dec_lt (slot_of m k) trees)))
    where
      within : Dec (slot_of m k < trees) → slot_of m k < length m
      within (yes l) = omega (arith, t.long)
      within (no f) = omega (arith, t.long, apart (slot_of m k) refl (omega arith))

  key_new : key m' e' ≡ k
  unfolding added
  key_new =
      get_or-set_other m2 number_at (key_at e') e' 0 (omega arith)
      ∙ get_or-set_other m1 (slot_of m k) (key_at e') e' 0 (λ q. omega (arith, apart (key_at e') q (omega arith)))
      ∙ get_or-set_same m (key_at e') k 0 (omega (arith, t.long))

  key_old : (e : ℕ) → e < number m → key m' (suc e) ≡ key m (suc e)
  key_old e l = kept (key_at (suc e)) (omega arith) (λ q. omega (arith, apart (key_at (suc e)) q (omega arith))) (omega arith)

  pub value_old : (j e : ℕ) → j < 2 → e ≤ number m → value m' j e ≡ value m j e
  value_old j e h l = kept (value_at j e) (omega arith) (λ q. omega (arith, apart (value_at j e) q (omega arith))) (omega arith)

  -- behind the key of the new entry all is 0, as it was
  fresh_new : (a : ℕ) → key_at e' < a → get m' a ≡ 0
  fresh_new a h = kept a (omega arith) (λ q. omega (arith, apart a q (omega arith))) (omega arith) ∙ t.fresh a (omega arith)

  nowhere_new : (b : ℕ) → b < 2 → get m' (link_at b 0) ≡ 0
  nowhere_new b h = kept (link_at b 0) (omega arith) (λ q. omega (arith, apart (link_at b 0) q (omega arith))) (omega arith) ∙ t.nowhere b h

  pub value_new : (j : ℕ) → j < 2 → value m' j (suc (number m)) ≡ 0
  value_new j h = fresh_new (value_at j e') (omega arith)

  -- ---- what is found then
  pub found_after : (j : ℕ) → entry_of m' j ≡ cond (eqb k j) (suc (number m)) (entry_of m j)
  unfolding entry_of newest
  found_after j = rw (number_more, key_new) (ap (cond (eqb k j) e') (newest_same m m' j (number m) key_old))

  pub found_new : entry_of m' k ≡ suc (number m)
  found_new = found_after k ∙ rw (eq-eqb k k refl)

  -- what holds of the new entry and of each that was there holds of every entry; and so for keys
  every : (P : ℕ → Type 0) → P (number m) → ((e : ℕ) → e < number m → P e) → (e : ℕ) → e < number m' → P e
  every P here old e l = go (ℕ_discrete e (number m))
    where
      go : Dec (e ≡ number m) → P e
      go (yes q) = subst P (sym q) here
      go (no f) = old e (omega (arith, number_more))

  pub every_key :
      (P : ℕ → Type 0) → P k → ((e : ℕ) → e < number m → P (key m (suc e))) → (e : ℕ) → e < number m' → P (key m' (suc e))
  every_key P here old = every (λ e. P (key m' (suc e))) (subst P (sym key_new) here) (λ e l. subst P (sym (key_old e l)) (old e l))

  distinct_old : (e : ℕ) → e < number m → entry_of m' (key m' (suc e)) ≡ suc e
  distinct_old e l =
      ap (entry_of m') (key_old e l) ∙ found_after (key m (suc e)) ∙ rw (ne_eqb k (key m (suc e)) other) (t.distinct e l)
    where
      other : k ≡ key m (suc e) → ⊥
      other q = let z : 0 ≡ suc e = sym new ∙ ap (entry_of m) q ∙ t.distinct e l in omega arith

  -- ---- where walks stand then: where they stood, or at the new entry if they are alike and had ended at its slot
  slot_old : (j d : ℕ) → (slot_at m j d ≡ slot_of m k → ⊥) → get m' (slot_at m j d) ≡ stop m j d
  slot_old j d f =
      kept (slot_at m j d) (λ q. omega (arith, slot_link m j d (key_at e') (sym q) (omega arith))) f
      (λ q. omega (arith, slot_link m j d number_at (sym q) (omega arith)))

  stays : (j d : ℕ) → Behind m j d → slot_at m' j d ≡ slot_at m j d
  unfolding slot_at
  stays j zero b = refl
  stays j (suc d) b =
      ap (link_at (digit d j)) (ap (get m') (stays j d (behind_since t j d (b d refl))) ∙ slot_old j d (λ s. b d refl (ap (get m) s ∙ ends.0)))

  stop_old : (j d e : ℕ) → stop m j d ≡ suc e → stop m' j d ≡ suc e
  stop_old j d e q =
      ap (get m') (stays j d (behind_since t j d (λ z. omega arith))) ∙ slot_old j d (λ s. omega (arith, ap (get m) s, ends.0)) ∙ q

  abbrev Met : ℕ → ℕ → ℕ → Type 0
  Met j d e = (stop m j d ≡ suc e) ⊎ ((e ≡ number m) × (d ≡ D) × (lead d j ≡ lead d k))

  stop_met : (j d e : ℕ) → Behind m j d → stop m' j d ≡ suc e → Met j d e
  stop_met j d e b q = go (ℕ_discrete (slot_at m j d) (slot_of m k))
    where
      go : Dec (slot_at m j d ≡ slot_of m k) → Met j d e
      go (yes s) = let w = one_slot t j k d D b s in inr (omega (arith, slot_new, ap (get m') (stays j d b ∙ s)), w.0, w.1)
      go (no f) = inl (sym (ap (get m') (stays j d b) ∙ slot_old j d f) ∙ q)

  stop_new : (j d e : ℕ) → stop m' j d ≡ suc e → Met j d e
  unfolding slot_at
  stop_new j zero e q = stop_met j 0 e (λ i r. absurd (omega arith)) q
  stop_new j (suc d) e q = go (stop m' j d) refl (stop_new j d)
    where
      at : (x : ℕ) → stop m' j d ≡ x → get m' (link_at (digit d j) x) ≡ suc e
      at x r = ap (λ (x : ℕ). get m' (link_at (digit d j) x)) (sym r) ∙ q

      go : (x : ℕ) → stop m' j d ≡ x → ((f : ℕ) → stop m' j d ≡ suc f → Met j d f) → Met j (suc d) e
      go zero r ih = absurd (omega (arith, at 0 r, nowhere_new (digit d j) (omega arith)))
      go (suc f) r ih =
          ⊎_elim (λ o. stop_met j (suc d) e (behind_next m j d (λ z. omega arith)) q)
          (λ w. absurd (omega (arith, at (suc f) r, fresh_new (link_at (digit d j) (suc f)) (omega arith)))) (ih f r)

  -- ---- the table
  abbrev depth : ℕ → ℕ
  depth e = cond (eqb e (number m)) D (t.depth e)

  depth_new : depth (number m) ≡ D
  depth_new = rw (eq-eqb (number m) (number m) refl)

  depth_old : (e : ℕ) → e < number m → depth e ≡ t.depth e
  depth_old e l = rw (ne_eqb e (number m) (omega arith))

  alike_new : (j d e : ℕ) → Met j d e → (e < number m') × (depth e ≡ d) × (lead d (key m' (suc e)) ≡ lead d j)
  alike_new j d e (inl o) =
      let w = t.alike j d e o in
      (omega (arith, number_more), depth_old e w.0 ∙ w.1, ap (lead d) (key_old e w.0) ∙ w.2)
  alike_new j d e (inr w) = (
    omega (arith, number_more),
    ap depth w.0 ∙ depth_new ∙ sym w.1,
    ap (λ (e : ℕ). lead d (key m' (suc e))) w.0 ∙ ap (lead d) key_new ∙ sym w.2,
  )

  pub added_table : Table m'
  unfolding added
  added_table = record {
    long = simp length-set t.long;
    few = omega (arith, number_more);
    below = every_key (λ y. y < key_limit) small t.below;
    distinct = every (λ e. entry_of m' (key m' (suc e)) ≡ suc e) (ap (entry_of m') key_new ∙ found_new) distinct_old;
    none = λ j h. value_old j 0 h (omega arith) ∙ t.none j h;
    nowhere = nowhere_new;
    fresh = λ a h. fresh_new a (omega (arith, number_more));
    depth = depth;
    reached = every (λ e. stop m' (key m' (suc e)) (depth e) ≡ suc e)
        (rw (key_new, depth_new) (ap (get m') (stays k D ends.1) ∙ slot_new))
        (λ e l. rw (key_old e l, depth_old e l) (stop_old (key m (suc e)) (t.depth e) e (t.reached e l)));
    alike = λ j d e q. alike_new j d e (stop_new j d e q);
  }

-- ---- an entry is made where its key is missing
pub grown_new : (m : List ℕ) (k : ℕ) → number m < room → entry_of m k ≡ 0 → grown m k ≡ added m k
unfolding grown
grown_new m k l z = rw (lt-ltb (number m) room l, eq-eqb (entry_of m k) 0 z)

-- and nothing is made else
grown_else : (m : List ℕ) (k : ℕ) → (number m < room → entry_of m k ≡ 0 → ⊥) → grown m k ≡ m
unfolding grown
grown_else m k f = go (ltb (number m) room) (eqb (entry_of m k) 0) refl refl
  where
    go : (a b : Bool) → ltb (number m) room ≡ a → eqb (entry_of m k) 0 ≡ b → cond (a && b) (added m k) m ≡ m
    go true true x y = absurd (f (ltb-true (number m) room x) (eqb-true (entry_of m k) 0 y))
    go true false x y = refl
    go false b x y = refl

pub grown_there : (m : List ℕ) (k : ℕ) → (entry_of m k ≡ 0 → ⊥) → grown m k ≡ m
grown_there m k f = grown_else m k (λ x y. f y)

pub grown_full : (m : List ℕ) (k : ℕ) → room ≤ number m → grown m k ≡ m
grown_full m k l = grown_else m k (λ x y. omega arith)

-- as the code has it: the walk ended at a 0
pub makes_new :
    {m : List ℕ} → Table m → (k : ℕ) → number m < room → k < key_limit → (slot : ℕ) → Sought m k slot → get m slot ≡ 0 →
    (written m k slot (number m + 1) ≡ grown m k) × (number m + 1 ≡ entry_of (written m k slot (number m + 1)) k)
unfolding added
makes_new {m} t k fits small slot s z =
    let new : entry_of m k ≡ 0 = sym s.here ∙ z in
    let is : written m k slot (number m + 1) ≡ added m k = rw (s.slot new, add-one (number m)) in
    (is ∙ sym (grown_new m k fits new), add-one (number m) ∙ sym (ap (λ (w : List ℕ). entry_of w k) is ∙ found_new t k fits new small))

-- ---- an entry has another value
module _ (m : List ℕ) (i d v : ℕ) where
  abbrev w : List ℕ
  w = valued m i d v

  w_kept : (a : ℕ) → (a ≡ value_at i d → ⊥) → get w a ≡ get m a
  w_kept a h = get_or-set_other m (value_at i d) a v 0 h

  pub value_there : (j e : ℕ) → (value_at j e ≡ value_at i d → ⊥) → value w j e ≡ value m j e
  value_there j e f = w_kept (value_at j e) f

  pub number_kept : number w ≡ number m
  number_kept = w_kept number_at (omega arith)

  module _ (column : i < 2) where
    pub value_here : length m ≡ size → d ≤ room → value w i d ≡ v
    value_here long l = get_or-set_same m (value_at i d) v 0 (omega arith)

    pub key_kept : (e : ℕ) → key w e ≡ key m e
    key_kept e = w_kept (key_at e) (omega arith)

    pub found_kept : (k : ℕ) → entry_of w k ≡ entry_of m k
    unfolding entry_of
    found_kept k = rw number_kept (newest_same m w k (number m) (λ e l. key_kept (suc e)))

    -- a slot is no value
    read_kept : (k c : ℕ) → get w (slot_at m k c) ≡ stop m k c
    read_kept k c = w_kept (slot_at m k c) (λ q. omega (arith, slot_link m k c (value_at i d) (sym q) (omega arith)))

    slot_kept : (k c : ℕ) → slot_at w k c ≡ slot_at m k c
    unfolding slot_at
    slot_kept k zero = refl
    slot_kept k (suc c) = ap (link_at (digit c k)) (ap (get w) (slot_kept k c) ∙ read_kept k c)

    stop_kept : (k c : ℕ) → stop w k c ≡ stop m k c
    stop_kept k c = ap (get w) (slot_kept k c) ∙ read_kept k c

    pub valued_table : Table m → 1 ≤ d → d ≤ number m → Table w
    valued_table t some made = record {
      long = simp length-set t.long;
      few = rw number_kept t.few;
      below = λ e l. rw (key_kept (suc e)) (t.below e (omega (arith, number_kept)));
      distinct = λ e l. ap (entry_of w) (key_kept (suc e)) ∙ found_kept (key m (suc e)) ∙ t.distinct e (omega (arith, number_kept));
      none = λ j h. value_there j 0 (omega arith) ∙ t.none j h;
      nowhere = λ b h. w_kept (link_at b 0) (omega arith) ∙ t.nowhere b h;
      fresh = λ a h. w_kept a (omega (arith, number_kept)) ∙ t.fresh a (omega (arith, number_kept));
      depth = t.depth;
      reached = λ e l. rw (key_kept (suc e)) (stop_kept (key m (suc e)) (t.depth e) ∙ t.reached e (omega (arith, number_kept)));
      alike = λ k c e q. rw (number_kept, key_kept (suc e)) (t.alike k c e (sym (stop_kept k c) ∙ q));
    }

-- ---- nothing was put in
pub empty_table : (m : List ℕ) → length m ≡ size → ((a : ℕ) → get m a ≡ 0) → Table m
empty_table m long clear = record {
  long = long;
  few = omega (arith, clear number_at);
  below = λ e l. absurd (omega (arith, clear number_at));
  distinct = λ e l. absurd (omega (arith, clear number_at));
  none = λ j h. clear (value_at j 0);
  nowhere = λ b h. clear (link_at b 0);
  fresh = λ a h. clear a;
  depth = λ e. 0;
  reached = λ e l. absurd (omega (arith, clear number_at));
  alike = λ k d e q. absurd (omega (arith, clear (slot_at m k d)));
}
