-- The levels come to a place one after the other: those that are through have the numbers of the next place's contexts, and those that wait have
-- the place's own. A level whose context is missing is at its cap and silent, and so are the longer ones: nothing is counted there. Assumes nothing.
use Prim.Native.Nat.{ℕ, zero, suc, ◌+◌, ◌-◌, ◌≤◌, ◌<◌}
use mathlib.Core.Path.{◌≡◌, refl, sym, ap, subst, ◌∙◌}
use mathlib.Core.Bool.{Bool, true, false}
use mathlib.Core.List.{List}
use native.Mathlib.Omega.{arith}
use native.Mathlib.Nat.{le_trans}
use native.Mathlib.Numerals.{add-one}
use native.Mathlib.Decide.{ℕ_discrete, dec_lt}
use lib.ListN.{length, get_or, set, replicate, length-set}
use lib.Seq.{get_or-set_same, get_or-set_other}
use Rattle.table.specs.Inner.Table.{room, number, value}
use Rattle.std.specs.Prelude.{Option, None}
use Rattle.mmc_store.specs.Counts.{present}
use Rattle.mmc_store.specs.Levels.{Level, level, found}
use Rattle.mmc_store.specs.Inner.Words.{bests, node, best}
use Rattle.mmc_store.specs.Inner.Ways.{Few}
use Rattle.mmc_store.specs.Inner.Places.{tables, reached, Held, Capped, Place, Stands, Says, Said, Ready, Through}
use Rattle.mmc_store.proofs.Same.{and_none}
use Rattle.mmc_store.proofs.Entries.{level_early, entries_grow}
use Rattle.mmc_store.proofs.Becoming.{becomes_same, absent_longer}
use Rattle.mmc_store.proofs.Few.{few_kept}
use Rattle.mmc_store.proofs.Nodes.{node_le, node_next, no_key}
use Rattle.mmc_store.proofs.Kept.{kept_few, kept_places, kept_absent, closed_up}
use Rattle.mmc_store.proofs.Telling.{said_absent, quiet_guess}
use Rattle.mmc_store.proofs.Saying.{Saying, saying_start, saying_next, known_next, said_all}
use Rattle.mmc_store.proofs.Counting.{uncounted}
use Rattle.mmc_store.proofs.Reached.{reached_waits, reached_done}

-- the context of level l + 1 was missing as the place began
pub record Lost (N cap : ℕ) (s : List ℕ) (i l : ℕ) (nodes : List ℕ) (T : ℕ → List ℕ) : Type 0 where
  pub capped : Capped N cap s i l
  pub absent : found s (level cap s i) i (suc l) ≡ false
  pub pairs : (j : ℕ) → l ≤ j → j < N → node T s (suc j) (suc i) ≡ 0
  pub rest : (j : ℕ) → l ≤ j → j < N → get_or nodes j 0 ≡ 0

-- the first `top` levels take part
abbrev Top : ℕ → ℕ → ℕ → Type 0
Top N i top = (top ≤ N) × (top ≤ i) × (top < N → i ≤ top)

-- l levels are through with place i, and `carry` is the number of the context of level l + 1 at the next place
pub record Turns (N cap : ℕ) (s : List ℕ) (i top l carry : ℕ) (known : Bool) (entries nodes : List ℕ) (guesses : List (Option ℕ)) (m : List ℕ) : Type 0 where
  pub place : Place s i
  pub least : Top N i top
  pub reach : l ≤ top
  pub held : Held N cap s i l entries m
  pub saying : Saying N cap s i l known guesses
  pub is : carry ≡ node (tables m) s l (suc i)
  pub lost : carry ≡ 0 → Capped N cap s i l
  pub full : length nodes ≡ suc N
  pub done : (j : ℕ) → j < l → get_or nodes j 0 ≡ node (tables m) s j (suc i)
  pub done_lost : (j : ℕ) → j < l → node (tables m) s j (suc i) ≡ 0 → Capped N cap s i j
  pub wait : (j : ℕ) → l ≤ j → j < i → j < N → (get_or nodes j 0 ≡ 0 → ⊥) → get_or nodes j 0 ≡ node (tables m) s j i
  pub wait_lost : (j : ℕ) → l ≤ j → j < i → j < N → get_or nodes j 0 ≡ 0 → Lost N cap s i j nodes (tables m)
  pub beyond : (j : ℕ) → i ≤ j → get_or nodes j 0 ≡ 0

-- ---- no level is through
module _ {N cap : ℕ} {s : List ℕ} {i : ℕ} {E nodes m : List ℕ} (w : Stands N cap s i E nodes m) (place : Place s i) where
  abbrev T₀ : ℕ → List ℕ
  T₀ = tables m

  lost_start : (l : ℕ) → l < i → l < N → get_or nodes l 0 ≡ 0 → Lost N cap s i l nodes T₀
  unfolding found
  lost_start l a b z = record {
    capped = w.spots.gone l a b gone;
    absent = and_none (found s (level cap s i) i l) (present s (suc l) (level cap s i (suc l)).places i)
        (subst (λ (k : ℕ). present s (suc l) (level cap s k (suc l)).places i ≡ false) (reached_waits i 0 l (omega arith))
        (kept_absent w.held.kept place.bytes l i b gone));
    pairs = λ j c d. node_next T₀ s j i
        ∙ no_key (w.held.kept.trie j d) (node T₀ s j i) (get_or s i 0) (place.bytes i) (λ h. omega (arith, missing j c d));
    rest = λ j c d. rest j c d (dec_lt j i);
  }
    where
      gone : node T₀ s l i ≡ 0
      gone = sym (w.spots.each l a b) ∙ z

      missing : (j : ℕ) → l ≤ j → j < N → node T₀ s j i ≡ 0
      missing j c d = closed_up w.held.kept l i j c (omega arith) gone

      rest : (j : ℕ) → l ≤ j → j < N → Dec (j < i) → get_or nodes j 0 ≡ 0
      rest j c d (yes e) = w.spots.each j e d ∙ missing j c d
      rest j c d (no f) = w.spots.beyond j (omega arith)

  pub turns_start : {top : ℕ} {G : List (Option ℕ)} → Top N i top → G ≡ replicate N None → Turns N cap s i top 0 (get_or s i 0 + 1) true E nodes G m
  unfolding node
  turns_start least mute = record {
    place = place;
    least = least;
    reach = omega arith;
    held = w.held;
    saying = saying_start N cap s i mute;
    is = (let e : suc i - 1 ≡ i = omega arith in rw e (add-one (get_or s i 0)));
    lost = λ z. absurd (omega arith);
    full = w.spots.full;
    done = λ j a. absurd (omega arith);
    done_lost = λ j a. absurd (omega arith);
    wait = λ j a b c f. w.spots.each j b c;
    wait_lost = λ j a b c z. lost_start j b c z;
    beyond = w.spots.beyond;
  }

-- ---- the number of level l + 1 at the next place is put down
module _ {N cap : ℕ} {s : List ℕ} {i top l carry : ℕ} {known : Bool} {E nodes : List ℕ} {G : List (Option ℕ)} {m : List ℕ} (w : Turns N cap s i top l carry known E nodes G m)
    {nodes' : List ℕ} (put : nodes' ≡ set nodes l carry) where
  abbrev T : ℕ → List ℕ
  T = tables m

  bytes : (j : ℕ) → get_or s j 0 < 256
  bytes = w.place.bytes

  put_long : length nodes' ≡ suc N
  put_long = ap length put ∙ length-set nodes l carry ∙ w.full

  put_there : (j : ℕ) → (j ≡ l → ⊥) → get_or nodes' j 0 ≡ get_or nodes j 0
  put_there j f = ap (λ (u : List ℕ). get_or u j 0) put ∙ get_or-set_other nodes l j carry 0 f

  put_done : (j : ℕ) → j ≤ l → (get_or nodes' j 0 ≡ node T s j (suc i)) × (node T s j (suc i) ≡ 0 → Capped N cap s i j)
  put_done j a = go (ℕ_discrete j l)
    where
      go : Dec (j ≡ l) → (get_or nodes' j 0 ≡ node T s j (suc i)) × (node T s j (suc i) ≡ 0 → Capped N cap s i j)
      go (yes e) =
          subst (λ (j : ℕ). (get_or nodes' j 0 ≡ node T s j (suc i)) × (node T s j (suc i) ≡ 0 → Capped N cap s i j)) (sym e) (
            ap (λ (u : List ℕ). get_or u l 0) put ∙ get_or-set_same nodes l carry 0 (omega (arith, w.full, w.reach, w.least.0)) ∙ w.is,
            λ z. w.lost (w.is ∙ z),
          )
      go (no f) = (put_there j f ∙ w.done j (omega arith), w.done_lost j (omega arith))

  -- ---- the next level
  module _ (more : l < top) where
    one : l < N
    one = omega (arith, w.least.0)

    taking : l < i
    taking = omega (arith, w.least.1)

    module _ {c : ℕ} (c_is : c ≡ get_or nodes l 0) (there : c ≡ 0 → ⊥) where
      context_is : c ≡ node T s l i
      context_is = c_is ∙ w.wait l (omega arith) taking one (λ z. there (c_is ∙ z))

      pub context_few : c ≤ room
      context_few = omega (arith, context_is, node_le T s bytes l i, kept_few w.held.kept l (omega (arith, one)))

      best_is : value (T l) bests c ≡ best s (suc l) (level cap s i (suc l)).places i
      best_is =
          ap (value (T l) bests) context_is ∙ sym ((w.held.kept.stores l one).bests_are i)
          ∙ ap (λ (k : ℕ). best s (suc l) (level cap s k (suc l)).places i) (reached_waits i l l (omega arith))

      module _ {r : Bool} {G' : List (Option ℕ)} (says : Says (value (T l) bests c) l known G G' r) where
        pub ready : Ready N cap s i l c (get_or s i 0) r carry E m
        ready = record {
          held = w.held;
          place = w.place;
          x_is = refl;
          one = one;
          taking = taking;
          is = context_is;
          some = omega arith;
          known_is = known_next w.saying one bytes best_is says;
          newer = w.is;
          lost = w.lost;
        }

        module _ {p : ℕ} {E' m' : List ℕ} (th : Through N cap s i l p m E' m') where
          past : (j : ℕ) → j ≤ l → node (tables m') s j (suc i) ≡ node T s j (suc i)
          past j a = th.others j (suc i) (omega (arith, one)) (λ e. omega arith)

          -- a context that is there keeps its number
          waits : (j : ℕ) → suc l ≤ j → j < i → j < N → (get_or nodes j 0 ≡ 0 → ⊥) → get_or nodes j 0 ≡ node (tables m') s j i
          waits j a b d f = is ∙ sym (go (ℕ_discrete j (suc l)))
            where
              is : get_or nodes j 0 ≡ node T s j i
              is = w.wait j (omega arith) b d f

              go : Dec (j ≡ suc l) → node (tables m') s j i ≡ node T s j i
              go (yes e) =
                  subst (λ (j : ℕ). (node T s j i ≡ 0 → ⊥) → node (tables m') s j i ≡ node T s j i) (sym e) (th.there i) (λ z. f (is ∙ z))
              go (no g) = th.others j i (omega arith) g

          waits_lost : (j : ℕ) → suc l ≤ j → j < i → j < N → get_or nodes j 0 ≡ 0 → Lost N cap s i j nodes' (tables m')
          waits_lost j a b d z =
              let gone = w.wait_lost j (omega arith) b d z in record {
                capped = gone.capped;
                absent = gone.absent;
                pairs = λ k e f. th.others (suc k) (suc i) f (λ q. omega arith) ∙ gone.pairs k e f;
                rest = λ k e f. put_there k (λ q. omega arith) ∙ gone.rest k e f;
              }

          pub turns_next : Turns N cap s i top (l + 1) p r E' nodes' G' m'
          turns_next = rw (add-one l) (record {
            place = w.place;
            least = w.least;
            reach = more;
            held = th.held;
            saying = saying_next w.saying one bytes best_is says;
            is = th.is;
            lost = th.lost;
            full = put_long;
            done = λ j a. (put_done j (omega arith)).0 ∙ sym (past j (omega arith));
            done_lost = λ j a z. (put_done j (omega arith)).1 (sym (past j (omega arith)) ∙ z);
            wait = λ j a b d f. put_there j (λ e. omega arith) ∙ waits j a b d (λ z. f (put_there j (λ e. omega arith) ∙ z));
            wait_lost = λ j a b d z. waits_lost j a b d (sym (put_there j (λ e. omega arith)) ∙ z);
            beyond = λ j a. put_there j (λ e. omega (arith, taking)) ∙ w.beyond j a;
          })

  -- ---- no level from l on changes, and each is at its cap and has the number of its context at the next place
  module _ (idle : (j : ℕ) → l ≤ j → j < N → level cap s (suc i) (suc j) ≡ level cap s i (suc j))
      (rest : (j : ℕ) → l < j → j < suc i → j < N → (get_or nodes j 0 ≡ node T s j (suc i)) × Capped N cap s i j) where
    same_level : (j : ℕ) → j < N → level cap s (reached (suc i) 0 j) (suc j) ≡ level cap s (reached i l j) (suc j)
    same_level j a = ap (λ (k : ℕ). level cap s k (suc j)) (reached_waits (suc i) 0 j (omega arith)) ∙ go (dec_lt j l)
      where
        go : Dec (j < l) → level cap s (suc i) (suc j) ≡ level cap s (reached i l j) (suc j)
        go (yes b) = ap (λ (k : ℕ). level cap s k (suc j)) (sym (reached_done i l j b))
        go (no f) = idle j (omega arith) a ∙ ap (λ (k : ℕ). level cap s k (suc j)) (sym (reached_waits i l j (omega arith)))

    roomy_next : (j : ℕ) → j < N → Few (suc N) cap s (suc i) (suc j) (number (T (suc j)))
    roomy_next j a = go (dec_lt j l)
      where
        go : Dec (j < l) → Few (suc N) cap s (suc i) (suc j) (number (T (suc j)))
        go (yes b) = subst (λ (k : ℕ). Few (suc N) cap s k (suc j) (number (T (suc j)))) (reached_done i l j b) (w.held.roomy j a)
        go (no f) =
            few_kept (subst (λ (k : ℕ). Few (suc N) cap s k (suc j) (number (T (suc j)))) (reached_waits i l j (omega arith)) (w.held.roomy j a))

    held_next : Held N cap s (suc i) 0 E m
    held_next = record {
      long = w.held.long;
      full = w.held.full;
      kept = kept_places w.held.kept (λ j. (level cap s (reached (suc i) 0 j) (suc j)).places)
          (λ j a. ap (λ (v : Level). v.places) (same_level j a));
      entries_are = λ j a. w.held.entries_are j a ∙ ap (λ (v : Level). v.entries) (sym (same_level j a));
      roomy = λ j a. subst (λ (k : ℕ). Few (suc N) cap s k (suc j) (number (T (suc j)))) (sym (reached_waits (suc i) 0 j (omega arith)))
          (roomy_next j a);
    }

    -- a level that is at its cap stays there
    spot : (j : ℕ) → j < suc i → j < N → Dec (l < j) → (get_or nodes' j 0 ≡ node T s j (suc i)) × (node T s j (suc i) ≡ 0 → Capped N cap s i j)
    spot j a b (yes h) = (put_there j (λ e. omega arith) ∙ (rest j h a b).0, λ z. (rest j h a b).1)
    spot j a b (no g) = put_done j (omega arith)

    stands_next : Stands N cap s (i + 1) E nodes' m
    stands_next = rw (add-one i) (record {
      held = held_next;
      spots = record {
        full = put_long;
        each = λ j a b. (spot j a b (dec_lt l j)).0;
        gone = λ j a b z k d e. le_trans ((spot j a b (dec_lt l j)).1 z k d e) (entries_grow cap s (suc k) i);
        beyond = λ j a. put_there j (λ e. omega (arith, w.reach, w.least.1)) ∙ w.beyond j (omega arith);
      };
    })

  -- a level that does not take part yet
  early : (j : ℕ) → i ≤ j → level cap s (suc i) (suc j) ≡ level cap s i (suc j)
  early j a = level_early cap s (suc i) (suc j) (omega arith) ∙ sym (level_early cap s i (suc j) (omega arith))

  -- ---- all levels that take part are through
  module _ (over : top ≤ l) where
    late : (j : ℕ) → l ≤ j → j < N → i ≤ j
    late j a b = let h : i ≤ top = w.least.2 (omega arith) in omega arith

    pub turns_over : Stands N cap s (i + 1) E nodes' m × Said N cap s i G
    turns_over = (
      stands_next (λ j a b. early j (late j a b)) (λ j a b c. absurd (let h : i ≤ j - 1 = late (j - 1) (omega arith) (omega arith) in omega arith)),
      said_all w.saying (λ j a b. quiet_guess cap s i j (omega (arith, late j a b))),
    )

  -- ---- the context of level l + 1 is missing
  module _ (more : l < top) (none : get_or nodes l 0 ≡ 0) where
    gone : Lost N cap s i l nodes T
    gone = w.wait_lost l (omega arith) (omega (arith, w.least.1)) (omega (arith, w.least.0)) none

    idle : (j : ℕ) → l ≤ j → j < N → level cap s (suc i) (suc j) ≡ level cap s i (suc j)
    idle j a b = go (dec_lt j i)
      where
        go : Dec (j < i) → level cap s (suc i) (suc j) ≡ level cap s i (suc j)
        go (yes h) = becomes_same cap s (suc j) i h (λ t. uncounted w.held (bytes i) j a b (gone.pairs j a b)) (gone.capped j a b)
        go (no g) = early j (omega arith)

    rest : (j : ℕ) → l < j → j < suc i → j < N → (get_or nodes j 0 ≡ node T s j (suc i)) × Capped N cap s i j
    rest zero a b c = absurd (omega arith)
    rest (suc j) a b c =
        (gone.rest (suc j) (omega arith) c ∙ sym (gone.pairs j (omega arith) (omega arith)), λ k d e. gone.capped k (omega arith) e)

    pub turns_left : Stands N cap s (i + 1) E nodes' m × Said N cap s i G
    turns_left = (
      stands_next idle rest,
      said_all w.saying (λ j a b. said_absent cap s i j (absent_longer s (level cap s i) i (suc l) (suc j) (omega arith) gone.absent)),
    )
