-- One level counts one place: what is found of its pair, and what is held once the level is through. A pair that is missing then had no word of its
-- newer symbols, or no room: so the level and every longer one are at their caps, and nothing is counted. Assumes nothing.
use Prim.Native.Nat.{ℕ, zero, suc, ◌+◌, ◌-◌, ◌*◌, ◌≤◌, ◌<◌, max}
use mathlib.Core.Path.{◌≡◌, refl, sym, ap, subst, ◌∙◌}
use mathlib.Core.Logic.{⊎_elim}
use mathlib.Core.Bool.{Bool, true, false}
use mathlib.Core.List.{List, ◌∷◌}
use native.Mathlib.Omega.{arith}
use native.Mathlib.Numerals.{add-one}
use native.Mathlib.Decide.{ℕ_discrete}
use lib.ListN.{length, get_or, length-set}
use lib.Seq.{get_or-set_same, get_or-set_other}
use Rattle.table.specs.Inner.Table.{Table, size, room, key_limit, number, value, entry_of, grown, valued}
use Rattle.capture.specs.Limit.{symbol_limit}
use Rattle.mmc_store.specs.Counts.{count}
use Rattle.mmc_store.specs.Levels.{Level, counting, found, level}
use Rattle.mmc_store.specs.Inner.Words.{counts, bests, key_of, node, Kept}
use Rattle.mmc_store.specs.Inner.Ways.{Few}
use Rattle.mmc_store.specs.Inner.Places.{part, tables, reached, Changed, Tallied, Held, Capped, Ready, Through}
use Rattle.mmc_store.specs.Inner.Places.{Takes, counted-again, new_entry, at_the_cap}
use Rattle.mmc_store.proofs.Entries.{places_le}
use Rattle.mmc_store.proofs.Becoming.{becomes-again, becomes_new, becomes_same, count_le}
use Rattle.mmc_store.proofs.Few.{few_kept, few_more, few_full}
use Rattle.mmc_store.proofs.Nodes.{word_le, node_le, node_next}
use Rattle.mmc_store.proofs.Kept.{kept_few, kept_places, closed_up}
use Rattle.mmc_store.proofs.Made.{Grew, grew_not, limit, grew}
use Rattle.mmc_store.proofs.Counted.{Recounted, recounted}
use Rattle.mmc_store.proofs.Reached.{reached_waits, reached_done, reached_other}

-- a pair that is missing was not counted, at a level that is not through with the place
pub uncounted :
    {N cap : ℕ} {s : List ℕ} {i k : ℕ} {E m : List ℕ} → Held N cap s i k E m → get_or s i 0 < 256 → (j : ℕ) → k ≤ j → j < N →
    node (tables m) s (suc j) (suc i) ≡ 0 → count s (suc j) (level cap s i (suc j)).places i (get_or s i 0) ≡ 0
uncounted {N} {cap} {s} {i} {k} {E} {m} w byte j a b z =
    ap (λ (u : ℕ). count s (suc j) (level cap s u (suc j)).places i (get_or s i 0)) (sym (reached_waits i k j a))
    ∙ (w.kept.stores j b).counts_are i (get_or s i 0) byte
    ∙ ap (value (tables m (suc j)) counts) (sym (node_next (tables m) s j i) ∙ z)
    ∙ (w.kept.trie j b).table.none counts (omega arith)

module _
    {N cap : ℕ} (caps : cap + suc N ≤ room) {s : List ℕ} {i l c x : ℕ} {known : Bool} {carry : ℕ} {E m : List ℕ}
    (w : Ready N cap s i l c x known carry E m) where
  abbrev v : Level
  v = level cap s i (suc l)

  abbrev v' : Level
  v' = level cap s (suc i) (suc l)

  abbrev h : ℕ → List ℕ
  h j = (level cap s (reached i l j) (suc j)).places

  abbrev h' : ℕ → List ℕ
  h' j = (level cap s (reached i (suc l) j) (suc j)).places

  abbrev T : ℕ → List ℕ
  T = tables m

  bytes : (j : ℕ) → get_or s j 0 < 256
  bytes = w.place.bytes

  -- ---- the levels, once this one is through
  waits : level cap s (reached i l l) (suc l) ≡ v
  waits = ap (λ (k : ℕ). level cap s k (suc l)) (reached_waits i l l (omega arith))

  here : level cap s (reached i (suc l) l) (suc l) ≡ v'
  here = ap (λ (k : ℕ). level cap s k (suc l)) (reached_done i (suc l) l (omega arith))

  other : (j : ℕ) → (j ≡ l → ⊥) → level cap s (reached i (suc l) j) (suc j) ≡ level cap s (reached i l j) (suc j)
  other j f = ap (λ (k : ℕ). level cap s k (suc j)) (reached_other i l j f)

  entries_here : get_or E l 0 ≡ v.entries
  entries_here = w.held.entries_are l w.one ∙ ap (λ (u : Level). u.entries) waits

  -- E' and m' are left
  held_next :
      {E' m' : List ℕ} → length m' ≡ length m → length E' ≡ length E → Kept N s h' (tables m') →
      get_or E' l 0 ≡ v'.entries → ((j : ℕ) → (j ≡ l → ⊥) → get_or E' j 0 ≡ get_or E j 0) →
      Few (suc N) cap s (suc i) (suc l) (number (tables m' (suc l))) → ((j : ℕ) → (j ≡ l → ⊥) → number (tables m' (suc j)) ≡ number (T (suc j))) →
      Held N cap s i (suc l) E' m'
  held_next {E'} {m'} lm le k e eo f fo = record {
    long = lm ∙ w.held.long;
    full = le ∙ w.held.full;
    kept = k;
    entries_are = λ j a. at_entries j a (ℕ_discrete j l);
    roomy = λ j a. at_roomy j a (ℕ_discrete j l);
  }
    where
      at_entries : (j : ℕ) → j < N → Dec (j ≡ l) → get_or E' j 0 ≡ (level cap s (reached i (suc l) j) (suc j)).entries
      at_entries j a (yes q) =
          subst (λ (j : ℕ). get_or E' j 0 ≡ (level cap s (reached i (suc l) j) (suc j)).entries) (sym q) (e ∙ ap (λ (u : Level). u.entries) (sym here))
      at_entries j a (no g) = eo j g ∙ w.held.entries_are j a ∙ ap (λ (u : Level). u.entries) (sym (other j g))

      at_roomy : (j : ℕ) → j < N → Dec (j ≡ l) → Few (suc N) cap s (reached i (suc l) j) (suc j) (number (tables m' (suc j)))
      at_roomy j a (yes q) =
          subst (λ (j : ℕ). Few (suc N) cap s (reached i (suc l) j) (suc j) (number (tables m' (suc j)))) (sym q)
          (subst (λ (k : ℕ). Few (suc N) cap s k (suc l) (number (tables m' (suc l)))) (sym (reached_done i (suc l) l (omega arith))) f)
      at_roomy j a (no g) =
          rw (fo j g)
          (subst (λ (k : ℕ). Few (suc N) cap s k (suc j) (number (T (suc j)))) (sym (reached_other i l j g)) (w.held.roomy j a))

  -- ---- what is asked to look the pair up
  pub pair_table : Table (part (l + 1) m)
  pair_table = rw (add-one l) (w.held.kept.trie l w.one).table

  parent : 1 ≤ node T s l i
  parent = omega (arith, w.some, w.is)

  key_is : c * 256 + x ≡ key_of (node T s l i) (get_or s i 0)
  key_is = rw (w.is, w.x_is)

  pub key_fits : c * 256 + x < key_limit
  key_fits = rw key_is (limit w.held.kept bytes l i w.one parent)

  few_here : Few (suc N) cap s i (suc l) (number (T (suc l)))
  few_here = subst (λ (k : ℕ). Few (suc N) cap s k (suc l) (number (T (suc l)))) (reached_waits i l l (omega arith)) (w.held.roomy l w.one)

  -- ---- the pair was looked up, and made where it was missing, if there was room: p is its number, and m₁ is left
  pub record Looked (m₁ : List ℕ) (p : ℕ) : Type 0 where
    pub long : length m₁ ≡ length m
    pub rest : (j : ℕ) → (j ≡ suc l → ⊥) → tables m₁ j ≡ T j
    pub grew : Grew N s h T l i (tables m₁)
    pub is : p ≡ node (tables m₁) s (suc l) (suc i)
    pub lost : p ≡ 0 → Capped N cap s i l

  -- its newer symbols are no word, and so neither is the pair
  pub not_looked : carry ≡ 0 → Looked m 0
  not_looked z = record {
    long = refl;
    rest = λ j f. refl;
    grew = grew_not l i w.held.kept;
    is = sym (w.held.kept.closed l (suc i) w.one (sym w.newer ∙ z));
    lost = λ y. w.lost z;
  }

  pub looked : {m₁ : List ℕ} {p : ℕ} → (carry ≡ 0 → ⊥) → Changed (l + 1) m m₁ (grown (part (l + 1) m) (c * 256 + x)) →
      p ≡ entry_of (part (l + 1) m₁) (c * 256 + x) → Looked m₁ p
  looked {m₁} {p} some ch pe = record {
    long = ch.long;
    rest = rest;
    grew = g.0;
    is = pair_is;
    -- a pair that is missing then found no room
    lost = λ z j a b. few_full few_here (let full = g.1 (sym pair_is ∙ z) in omega arith) (suc j) (omega arith) (omega arith);
  }
    where
      rest : (j : ℕ) → (j ≡ suc l → ⊥) → tables m₁ j ≡ T j
      rest j f = ch.others j (λ e. f (e ∙ add-one l))

      g : Grew N s h T l i (tables m₁) × (node (tables m₁) s (suc l) (suc i) ≡ 0 → room ≤ number (T (suc l)))
      g =
          grew w.held.kept bytes l i w.one parent (omega (arith, w.newer)) (tables m₁)
          (ap (λ (t : ℕ). part t m₁) (sym (add-one l)) ∙ ch.here ∙ rw (add-one l, key_is)) rest

      pair_is : p ≡ node (tables m₁) s (suc l) (suc i)
      pair_is =
          pe ∙ ap (λ (t : ℕ). entry_of (part t m₁) (c * 256 + x)) (add-one l)
          ∙ ap (entry_of (tables m₁ (suc l))) (rw (w.is ∙ sym (g.0.others l i (omega (arith, w.one)) (λ e. omega arith)), w.x_is))
          ∙ sym (node_next (tables m₁) s l i)

  module _ {m₁ : List ℕ} {p : ℕ} (q : Looked m₁ p) where
    abbrev T₁ : ℕ → List ℕ
    T₁ = tables m₁

    abbrev g : Grew N s h T l i T₁
    g = q.grew

    context₁ : c ≡ node T₁ s l i
    context₁ = w.is ∙ sym (g.others l i (omega (arith, w.one)) (λ e. omega arith))

    -- ---- how many pairs there are then
    grows : node T s (suc l) (suc i) ≡ 0 → (J : ℕ) → suc l ≤ J → J < suc N → J ≤ i → (level cap s i J).entries < cap →
        (level cap s (suc i) J).entries ≡ (level cap s i J).entries + 1
    grows z zero a b t u = absurd (omega arith)
    grows z (suc j) a b t u =
        let gone = closed_up w.held.kept (suc l) (suc i) (suc j) a (omega arith) z in
        ap (λ (u : Level). u.entries) (becomes_new cap s (suc j) i t (λ _. uncounted w.held (bytes i) j (omega arith) (omega arith) gone) u)

    few₁ : Few (suc N) cap s (suc i) (suc l) (number (T₁ (suc l)))
    few₁ =
        ⊎_elim (λ e. subst (Few (suc N) cap s (suc i) (suc l)) (sym e) (few_kept few_here))
        (λ e. subst (Few (suc N) cap s (suc i) (suc l)) (sym e.1) (few_more few_here w.taking (grows e.0))) g.more

    pair_few : p ≤ room
    pair_few = omega (arith, q.is, word_le T₁ s l (suc i), (g.kept.trie l w.one).table.few)

    -- what is asked to read its count
    pub count_ready : (length m₁ ≡ suc N * size) × (l + 1 < suc N) × (counts < 2) × (p ≤ room)
    count_ready = (q.long ∙ w.held.long, omega (arith, w.one), omega arith, pair_few)

    -- ---- the level stays as it is
    through_still : v' ≡ v → Through N cap s i l p m E m₁
    through_still e = record {
      held = held_next q.long refl (kept_places g.kept h' (λ j a. at j (ℕ_discrete j l)))
          (entries_here ∙ ap (λ (u : Level). u.entries) (sym e)) (λ j f. refl) few₁ (λ j f. ap number (q.rest (suc j) (λ e. f (omega arith))));
      is = q.is;
      lost = λ z j a. q.lost z j (omega arith);
      others = g.others;
      there = g.there;
    }
      where
        at : (j : ℕ) → Dec (j ≡ l) → h' j ≡ h j
        at j (yes y) = subst (λ (j : ℕ). h' j ≡ h j) (sym y) (ap (λ (u : Level). u.places) (here ∙ e ∙ sym waits))
        at j (no f) = ap (λ (u : Level). u.places) (other j f)

    -- n is the pair's count
    module _ {n : ℕ} (ne : n ≡ value (part (l + 1) m₁) counts p) where
      n_is : n ≡ value (T₁ (suc l)) counts p
      n_is = ne ∙ ap (λ (t : ℕ). value (part t m₁) counts p) (add-one l)

      count_is : n ≡ count s (suc l) v.places i (get_or s i 0)
      count_is =
          n_is ∙ ap (value (T₁ (suc l)) counts) (q.is ∙ node_next T₁ s l i)
          ∙ sym ((g.kept.stores l w.one).counts_are i (get_or s i 0) (bytes i))
          ∙ ap (λ (u : Level). count s (suc l) u.places i (get_or s i 0)) waits

      -- what is asked to count it once more
      pub tally_ready : (length m₁ ≡ suc N * size) × (l + 1 < suc N) × (c ≤ room) × (x < 256) × (p ≤ room) × (n + 1 < symbol_limit)
      tally_ready = (
        q.long ∙ w.held.long,
        omega (arith, w.one),
        omega (arith, w.is, node_le T s bytes l i, kept_few w.held.kept l (omega (arith, w.one))),
        omega (arith, w.x_is, bytes i),
        pair_few,
        omega (
          arith,
          count_is,
          count_le s (suc l) v.places i (get_or s i 0),
          places_le cap s (suc l) i,
          w.place.within,
          w.place.short,
          w.taking,
        ),
      )

      -- as the level's rules have it
      uncounted_here : (known ≡ true → n ≡ 0) → found s (level cap s i) i (suc l) ≡ true → count s (suc l) v.places i (get_or s i 0) ≡ 0
      uncounted_here f t = sym count_is ∙ f (w.known_is ∙ t)

      pub through_left : {E' : List ℕ} {b : Bool} → Takes cap l known n E E' b → b ≡ false → Through N cap s i l p m E' m₁
      through_left (counted-again t f) e = absurd (let z : ◌≡◌ {A = ℕ} 0 1 = cc in omega arith)
      through_left (new_entry f a) e = absurd (let z : ◌≡◌ {A = ℕ} 0 1 = cc in omega arith)
      through_left (at_the_cap f a) e = through_still (becomes_same cap s (suc l) i w.taking (uncounted_here f) (omega (arith, entries_here)))

      -- ---- the place is counted, and d entries more
      module _ (some : p ≡ 0 → ⊥) {m₂ : List ℕ} (ta : Tallied l c x p n m₁ m₂) where
        through_counted : {E' : List ℕ} (d : ℕ) → v' ≡ counting v i d → length E' ≡ length E → get_or E' l 0 ≡ get_or E l 0 + d →
            ((j : ℕ) → (j ≡ l → ⊥) → get_or E' j 0 ≡ get_or E j 0) → Through N cap s i l p m E' m₂
        through_counted d up le e eo = record {
          held = held_next (ta.long ∙ q.long) le r.kept (e ∙ ap (λ (k : ℕ). k + d) entries_here ∙ ap (λ (u : Level). u.entries) (sym up)) eo
              (subst (Few (suc N) cap s (suc i) (suc l)) (sym (r.numbers (suc l))) few₁)
              (λ j f. r.numbers (suc j) ∙ ap number (q.rest (suc j) (λ e. f (omega arith))));
          is = q.is ∙ sym (r.nodes (suc l) (suc i));
          lost = λ z. absurd (some z);
          others = λ e j a f. r.nodes e j ∙ g.others e j a f;
          there = λ j f. r.nodes (suc l) j ∙ g.there j f;
        }
          where
            c_is : c ≡ suc (c - 1)
            c_is = omega (arith, w.some)

            p_is : p ≡ suc (p - 1)
            p_is = omega arith

            r : Recounted N s h' T₁ (tables m₂)
            r =
                recounted g.kept bytes l i w.one (c - 1) (sym context₁ ∙ c_is) (p - 1) (sym q.is ∙ p_is) n
                (n_is ∙ ap (value (T₁ (suc l)) counts) p_is) h' (tables m₂)
                (subst (λ (e : ℕ). tables m₂ (suc l) ≡ valued (T₁ (suc l)) counts e (n + 1)) p_is ta.pair)
                (subst (λ (e : ℕ). tables m₂ l ≡ valued (T₁ l) bests e (max (value (T₁ l) bests e) (key_of (n + 1) (get_or s i 0)))) c_is
                (ta.context ∙ rw w.x_is))
                ta.others (ap (λ (u : Level). u.places) (here ∙ up) ∙ ap (λ (u : Level). i ∷ u.places) (sym waits))
                (λ j f. ap (λ (u : Level). u.places) (other j f))

        pub through_taken : {E' : List ℕ} {b : Bool} → Takes cap l known n E E' b → b ≡ true → Through N cap s i l p m E' m₂
        through_taken (counted-again t f) e =
            through_counted 0 (becomes-again cap s (suc l) i w.taking (sym w.known_is ∙ t) (λ z. f (count_is ∙ z))) refl
            (let z : get_or E l 0 ≡ get_or E l 0 + 0 = omega arith in z) (λ j f. refl)
        through_taken (at_the_cap f a) e = absurd (let z : ◌≡◌ {A = ℕ} 0 1 = cc in omega arith)
        through_taken (new_entry f a) e =
            through_counted 1 (becomes_new cap s (suc l) i w.taking (uncounted_here f) (omega (arith, entries_here)))
            (length-set E l (get_or E l 0 + 1)) (get_or-set_same E l (get_or E l 0 + 1) 0 (omega (arith, w.held.full, w.one)))
            (λ j f. get_or-set_other E l j (get_or E l 0 + 1) 0 f)

    -- ---- there is no pair
    pub through_none : p ≡ 0 → Through N cap s i l 0 m E m₁
    through_none z =
        let none = n_is refl ∙ ap (value (T₁ (suc l)) counts) z ∙ (g.kept.trie l w.one).table.none counts (omega arith) in
        subst (λ (p : ℕ). Through N cap s i l p m E m₁) z
        (through_still (becomes_same cap s (suc l) i w.taking (λ t. sym (count_is refl) ∙ none) (q.lost z l (omega arith) w.one)))
