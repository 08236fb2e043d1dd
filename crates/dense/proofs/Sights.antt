-- The table of the numbers by first sight, as the symbols are seen one after the other. Assumes nothing.
use mathlib.Core.Path.{◌≡◌, refl, ap, sym, subst, ◌∙◌}
use mathlib.Core.Bool.{Bool, true, false}
use mathlib.Core.List.{List, [], ◌∷◌, ◌++◌}
use Prim.Native.Nat.{ℕ, suc, ◌+◌, ◌≤◌, ◌<◌}
use native.Mathlib.Omega.{arith}
use borrow.Author.Tests.{eq-eqb, ne_eqb}
use lib.Dec.{eqb}
use lib.ListN.{length, get_or, take, drop, replicate}
use lib.Seq.{take_all}
use Rattle.alphabet.specs.Alphabet.{has, distinct, first_sight, up_to}
use Rattle.alphabet.specs.Inner.Numbering.{Holds, SymbolAt}
use Rattle.alphabet.proofs.Distinct.{same_has, distinct_le, distinct_nil, distinct_same, distinct_more, distinct_room}
use Rattle.alphabet.proofs.Membership.{none_in_nil, snoc_same, snoc_other, up_to_seen, up_to_new, up_to_not}
use Rattle.alphabet.proofs.Tables.{holds_same, holds_set, holds_start, take_next}
use Rattle.alphabet.proofs.Writing.{around}
use Rattle.dense.specs.Inner.Sight.{sight_in, entered, next_after}

sight_seen : (t : List ℕ) (v : ℕ) → has v t ≡ true → sight_in t v ≡ first_sight t v
unfolding sight_in
sight_seen t v h = rw h

sight_new : (t : List ℕ) (v : ℕ) → has v t ≡ false → sight_in t v ≡ 256
unfolding sight_in
sight_new t v h = rw h

-- the number of a value that was seen stays
sight_grows : (t u : List ℕ) (v : ℕ) → has v t ≡ true → first_sight (t ++ u) v ≡ first_sight t v
unfolding first_sight
sight_grows t u v h = ap distinct (up_to_seen v t u h)

sight_first : (t u : List ℕ) (x : ℕ) → has x t ≡ false → first_sight (t ++ (x ∷ u)) x ≡ distinct t
unfolding first_sight
sight_first t u x h = ap distinct (up_to_new x t u h)

sight_small : (s : List ℕ) (x : ℕ) → x < 256 → first_sight s x < 256
unfolding first_sight
sight_small s x l = distinct_room x (up_to x s) (up_to_not x s) l

sight_same : (t u : List ℕ) (v : ℕ) (b : Bool) → has v t ≡ b → has v (t ++ u) ≡ has v t → sight_in (t ++ u) v ≡ sight_in t v
sight_same t u v true h e = sight_seen (t ++ u) v (e ∙ h) ∙ sight_grows t u v h ∙ sym (sight_seen t v h)
sight_same t u v false h e = sight_new (t ++ u) v (e ∙ h) ∙ sym (sight_new t v h)

-- the table and the next number once the symbols of t are seen
pub record Entered (t : List ℕ) (numbers : List ℕ) (next : ℕ) : Type 0 where
  pub table : Holds (sight_in t) numbers
  pub count : next ≡ distinct t

pub entered_start : Entered [] (replicate 256 256) 0
entered_start =
    record { table = holds_start (sight_in []) 256 (λ v. sight_new [] v (none_in_nil v)); count = sym distinct_nil }

module _ (t : List ℕ) (x : ℕ) {m : List ℕ} {next : ℕ} (l : x < 256) (h : Entered t m next) where
  -- a value that was seen, and one that was not
  seen_step : has x t ≡ true → Entered (t ++ (x ∷ [])) (entered m x next) (next_after m x next)
  seen_step e =
      let n : eqb (get_or m x 0) 256 ≡ false = ne_eqb (get_or m x 0) 256 (λ q. omega (arith, h.table.at x l, sight_seen t x e, sight_small t x l)) in
      rw n
      (record {
        table = holds_same h.table (λ v. sight_same t (x ∷ []) v (has v t) refl (same_has v x t e));
        count = h.count ∙ sym (distinct_same x t e);
      })

  new_step : has x t ≡ false → Entered (t ++ (x ∷ [])) (entered m x next) (next_after m x next)
  new_step e =
      let n : eqb (get_or m x 0) 256 ≡ true = eq-eqb (get_or m x 0) 256 (h.table.at x l ∙ sight_new t x e) in
      rw n
      (record {
        table =
            holds_set x l h.table (sight_seen (t ++ (x ∷ [])) x (snoc_same x t) ∙ sight_first t [] x e ∙ sym h.count)
            (λ v k. sight_same t (x ∷ []) v (has v t) refl (snoc_other v x t k));
        count = omega (arith, h.count, distinct_more x t e l);
      })

  sights_step : (b : Bool) → has x t ≡ b → Entered (t ++ (x ∷ [])) (entered m x next) (next_after m x next)
  sights_step true e = seen_step e
  sights_step false e = new_step e

-- the symbol x at place i was looked up: the table m and the next number are those of one symbol more, and the table gives x its number
pub record Sighted (s : List ℕ) (i x : ℕ) (m : List ℕ) (next : ℕ) : Type 0 where
  pub entered : Entered (take (i + 1) s) m next
  pub number : get_or m x 0 ≡ first_sight s (get_or s i 0)
  pub small : get_or m x 0 < 256

module _ {s : List ℕ} {i x : ℕ} (p : SymbolAt s i x) {m m' : List ℕ} {next next' : ℕ} (h : Entered (take i s) m next)
    (n : next' ≡ next_after m x next) (q : m' ≡ entered m x next) where
  grown : Entered (take i s ++ (x ∷ [])) m' next'
  grown = rw (n, q) (sights_step (take i s) x p.small h (has x (take i s)) refl)

  number_is : get_or m' x 0 ≡ first_sight s x
  number_is =
      let t = take i s ++ (x ∷ []) in
      grown.table.at x p.small
      ∙ sight_seen t x (snoc_same x (take i s))
      ∙ sym (sight_grows t (drop (suc i) s) x (snoc_same x (take i s)))
      ∙ ap (λ (z : List ℕ). first_sight z x) (ap (λ (y : ℕ). (take i s ++ (y ∷ [])) ++ drop (suc i) s) p.here ∙ sym (around s i p.inside))

  pub sighted : Sighted s i x m' next'
  sighted =
      record {
        entered = subst (λ (t : List ℕ). Entered t m' next') (sym (take_next p)) grown;
        number = number_is ∙ ap (first_sight s) p.here;
        small = omega (arith, number_is, sight_small s x p.small);
      }

pub entered_all : (s : List ℕ) (i : ℕ) {m : List ℕ} {next : ℕ} → length s ≤ i → Entered (take i s) m next → next ≡ distinct s
entered_all s i l h = h.count ∙ ap distinct (take_all i s l)

pub entered_le : {t m : List ℕ} {next : ℕ} → Entered t m next → next ≤ 256
entered_le {t} h = omega (arith, h.count, distinct_le t)
