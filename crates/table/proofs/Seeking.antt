-- A walk for a key does not pass the key's entry, and so ends at it, or where the number of a missing one belongs. Assumes nothing.
use Prim.Native.Nat.{ℕ, zero, suc, ◌+◌, ◌-◌, ◌/◌, ◌%◌, ◌^◌, ◌≤◌, ◌<◌}
use mathlib.Core.Path.{◌≡◌, refl, sym, ap, ◌∙◌}
use mathlib.Core.List.{List}
use native.Mathlib.Omega.{arith}
use native.Mathlib.Decide.{ℕ_discrete}
use lib.Pow.{pow_pos}
use Rattle.table.specs.Inner.Table.{size, room, trees, key_limit, link_at, get, key, entry_of, rest, slot_at, stop, Table, deepest, end_from, slot_of, Sought}
use Rattle.table.proofs.Found.{found_within, found_key}
use Rattle.table.proofs.Walk.{stop_past, stop_within, walk_is_short, end_here, end_on}

-- the walk has met d entries, none of which has the key, and reads at `at`; it may meet `left` more before one has the key
pub record Seeking (m : List ℕ) (k at digits : ℕ) : Type 0 where
  pub table : Table m
  pub small : k < key_limit
  pub d : ℕ
  pub left : ℕ
  pub few : d + left ≡ deepest
  pub digits_are : digits ≡ rest d k
  pub top : 2 ^ left ≤ digits
  pub at_is : at ≡ slot_at m k d
  pub within : at < size
  pub end : slot_of m k ≡ slot_at m k (end_from m k left d)
  pub ahead : (f : ℕ) → entry_of m k ≡ suc f → d ≤ table.depth f

pub seeking_start : {m : List ℕ} → Table m → (k : ℕ) → k < key_limit → Seeking m k (k % trees) (k / trees + 256)
unfolding rest slot_at
seeking_start t k small = record {
  table = t;
  small = small;
  d = 0;
  left = deepest;
  few = refl;
  digits_are = refl;
  top = omega arith;
  at_is = refl;
  within = omega arith;
  end = refl;
  ahead = λ f q. omega arith;
}

found_there : {m : List ℕ} (t : Table m) (k f : ℕ) → entry_of m k ≡ suc f → stop m k (t.depth f) ≡ suc f
found_there {m} t k f q = rw (found_key m k f q) at (t.reached f (omega (arith, found_within m k)))

-- as the code has them: e is read at `at`, and then j is its key
module _ {m : List ℕ} {k at digits : ℕ} (w : Seeking m k at digits) where
  pub seek-less : digits / 2 < digits
  seek-less = omega (arith, w.top, pow_pos w.left)

  module _ (e : ℕ) (r : e ≡ get m at) where
    here : stop m k w.d ≡ e
    here = ap (get m) (sym w.at_is) ∙ sym r

    pub entry_few : e ≤ room
    entry_few = omega (arith, here, stop_within w.table k w.d, w.table.few)

    pub seek_ended : e ≡ 0 → Sought m k at
    seek_ended z = record {
      here = sym r ∙ z ∙ sym (missing (entry_of m k) refl);
      within = w.within;
      slot = λ y. w.at_is ∙ sym (w.end ∙ ap (slot_at m k) (end_here m k w.left w.d (here ∙ z)));
    }
      where
        missing : (n : ℕ) → entry_of m k ≡ n → n ≡ 0
        missing zero q = refl
        missing (suc f) q =
            let s : w.d + (w.table.depth f - w.d) ≡ w.table.depth f = omega (arith, w.ahead f q) in
            let gone : stop m k (w.table.depth f) ≡ 0 = ap (stop m k) (sym s) ∙ stop_past w.table k w.d (w.table.depth f - w.d) (here ∙ z) in
            absurd (omega (arith, found_there w.table k f q))

    module _ (j : ℕ) (f : e ≡ 0 → ⊥) (own : j ≡ key m e) where
      stands : stop m k w.d ≡ suc (e - 1)
      stands = omega (arith, here)

      same : key m (suc (e - 1)) ≡ j
      same = ap (key m) (let s : suc (e - 1) ≡ e = omega arith in s) ∙ sym own

      pub seek_found : j ≡ k → Sought m k at
      seek_found q =
          let found : entry_of m k ≡ suc (e - 1) = ap (entry_of m) (sym (same ∙ q)) ∙ w.table.distinct (e - 1) (w.table.alike k w.d (e - 1) stands).0 in
          record { here = sym r ∙ sym here ∙ stands ∙ sym found; within = w.within; slot = λ z. absurd (omega arith) }

      -- the entry is not the key's, which lies ahead
      further : (j ≡ k → ⊥) → (i : ℕ) → entry_of m k ≡ suc i → suc w.d ≤ w.table.depth i
      further g i q = go (ℕ_discrete w.d (w.table.depth i))
        where
          go : Dec (w.d ≡ w.table.depth i) → suc w.d ≤ w.table.depth i
          go (yes p) =
              let x : suc (e - 1) ≡ suc i = sym stands ∙ ap (stop m k) p ∙ found_there w.table k i q in
              absurd (g (sym same ∙ ap (key m) x ∙ found_key m k i q))
          go (no n) = omega (arith, w.ahead i q)

      pub seek_next : (a : ℕ) → (j ≡ k → ⊥) → a ≡ link_at (digits % 2) e → Seeking m k a (digits / 2)
      unfolding rest slot_at
      seek_next a g h = go w.left refl
        where
          go : (l : ℕ) → w.left ≡ l → Seeking m k a (digits / 2)
          go zero q =
              let s : deepest ≡ w.d = omega (arith, w.few) in
              absurd (g (sym same ∙ walk_is_short w.table k (e - 1) w.small (ap (stop m k) s ∙ stands)))
          go (suc l) q = record {
            table = w.table;
            small = w.small;
            d = suc w.d;
            left = l;
            few = omega (arith, w.few);
            digits_are = ap (λ (n : ℕ). n / 2) w.digits_are;
            top = (let y : 2 ^ suc l ≤ digits = rw q at w.top in omega arith);
            at_is = h ∙ rw (w.digits_are, here);
            within = omega (arith, entry_few);
            end = w.end ∙ ap (λ (n : ℕ). slot_at m k (end_from m k n w.d)) q ∙ ap (slot_at m k) (end_on m k l w.d (λ z. f (sym here ∙ z)));
            ahead = further g;
          }
