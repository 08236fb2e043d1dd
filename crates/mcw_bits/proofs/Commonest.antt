-- Which symbol is the commonest: the one that occurs most often and of these stands last; of an odd number of bits, what more than half are. Assumes nothing.
use mathlib.Core.Path.{◌≡◌, refl, sym, ap, ◌∙◌}
use mathlib.Core.Bool.{Bool, true, false, cond}
use mathlib.Core.List.{List, [], ◌∷◌, ◌++◌}
use Prim.Native.Nat.{ℕ, suc, ◌+◌, ◌≤◌, ◌<◌}
use native.Mathlib.Omega.{arith}
use lib.Dec.{leb, ltb}
use lib.ListN.{length, get_or, take, drop, length-take, length-drop}
use lib.Seq.{get_or-take, get_or-drop, split_at}
use borrow.Author.Tests.{ne_eqb, ltb-true, ltb-false, le-leb, lt-leb}
use Rattle.race.proofs.Cases.{tested, same?}
use Rattle.mcw_bits.specs.Commonest.{occurrences, favourite, commonest}

-- a symbol stays the favourite where each later one is the same or occurs less often
favourite_stays : (w v : List ℕ) (a : ℕ)
    → ((q : ℕ) → q < length v → (get_or v q 0 ≡ a → ⊥) → occurrences (get_or v q 0) w < occurrences a w) → favourite w v a ≡ a
unfolding favourite
favourite_stays w [] a h = refl
favourite_stays w (x ∷ v) a h =
    same? x a
    (λ e. rw (e, le-leb (occurrences a w) (occurrences a w) (omega arith)) (favourite_stays w v a (λ q l. h (suc q) (omega arith))))
    (λ e. rw (lt-leb (occurrences a w) (occurrences x w) (h 0 (omega arith) e)) (favourite_stays w v a (λ q l. h (suc q) (omega arith))))

-- no favourite occurs more often than a bound on the symbols
favourite_le : (w v : List ℕ) (a m : ℕ) → occurrences a w ≤ m → ((q : ℕ) → q < length v → occurrences (get_or v q 0) w ≤ m) → occurrences (favourite w v a) w ≤ m
unfolding favourite
favourite_le w [] a m l h = l
favourite_le w (x ∷ v) a m l h =
    favourite_le w v (cond (leb (occurrences a w) (occurrences x w)) x a) m (go (leb (occurrences a w) (occurrences x w)))
    (λ q k. h (suc q) (omega arith))
  where
    go : (b : Bool) → occurrences (cond b x a) w ≤ m
    go true = h 0 (omega arith)
    go false = l

favourite_takes : (w v : List ℕ) (x a : ℕ) → occurrences a w ≤ occurrences x w → favourite w (x ∷ v) a ≡ favourite w v x
unfolding favourite
favourite_takes w v x a h = rw (le-leb (occurrences a w) (occurrences x w) h)

favourite_append : (w u v : List ℕ) (a : ℕ) → favourite w (u ++ v) a ≡ favourite w v (favourite w u a)
unfolding favourite
favourite_append w [] v a = refl
favourite_append w (x ∷ u) v a = favourite_append w u v (cond (leb (occurrences a w) (occurrences x w)) x a)

-- what stands at j is the commonest, where none occurs more often, and each other that stands later less often
pub commonest_at : (w : List ℕ) (j a : ℕ) → j < length w → get_or w j 0 ≡ a → occurrences 0 w ≤ occurrences a w
    → ((q : ℕ) → q < length w → occurrences (get_or w q 0) w ≤ occurrences a w)
    → ((q : ℕ) → j < q → q < length w → (get_or w q 0 ≡ a → ⊥) → occurrences (get_or w q 0) w < occurrences a w)
    → commonest w ≡ a
unfolding commonest
commonest_at w j a l e z le lt =
    ap (λ (v : List ℕ). favourite w v 0) (split_at w j 0 l)
    ∙ favourite_append w (take j w) (get_or w j 0 ∷ drop (suc j) w) 0
    ∙ rw e (favourite_takes w (drop (suc j) w) a (favourite w (take j w) 0) bounded ∙ favourite_stays w (drop (suc j) w) a less)
  where
    bounded : occurrences (favourite w (take j w) 0) w ≤ occurrences a w
    bounded = favourite_le w (take j w) 0 (occurrences a w) z (λ q k. let k' : q < j = omega (arith, length-take j w) in rw get_or-take (le q (omega arith)))

    less : (q : ℕ) → q < length (drop (suc j) w) → (get_or (drop (suc j) w) q 0 ≡ a → ⊥) → occurrences (get_or (drop (suc j) w) q 0) w < occurrences a w
    less q k = rw get_or-drop (lt (suc j + q) (omega arith) (omega (arith, length-drop (suc j) w)))

-- a symbol that occurs stands somewhere
found : (a : ℕ) (w : List ℕ) → 0 < occurrences a w → (j : ℕ) × ((j < length w) × (get_or w j 0 ≡ a))
unfolding occurrences
found a [] p = absurd (omega arith)
found a (x ∷ w) p =
    same? x a
    (λ e. (0, (omega arith, e)))
    (λ e. later (found a w (let p' : 0 < 0 + occurrences a w = rw (ne_eqb a x (λ q. e (sym q))) at p in omega arith)))
  where
    later : (j : ℕ) × ((j < length w) × (get_or w j 0 ≡ a)) → (j : ℕ) × ((j < length (x ∷ w)) × (get_or (x ∷ w) j 0 ≡ a))
    later f = (suc f.0, (omega (arith, f.1.0), f.1.1))

-- one that occurs more often than every other
majority : (w : List ℕ) (a : ℕ) → occurrences 0 w ≤ occurrences a w → 0 < occurrences a w
    → ((q : ℕ) → q < length w → (get_or w q 0 ≡ a → ⊥) → occurrences (get_or w q 0) w < occurrences a w) → commonest w ≡ a
majority w a z p h =
    let f = found a w p in
    commonest_at w f.0 a f.1.0 f.1.1 z
    (λ q l. same? (get_or w q 0) a (λ e. rw e (omega arith)) (λ e. omega (arith, h q l e)))
    (λ q g l e. h q l e)

pub bit_zero : (b : ℕ) → b < 2 → (b ≡ 1 → ⊥) → b ≡ 0
bit_zero b l n = same? b 0 (λ e. e) (λ m. absurd (n (omega arith)))

bit_sum : (w : List ℕ) → ((q : ℕ) → q < length w → get_or w q 0 < 2) → occurrences 0 w + occurrences 1 w ≡ length w
unfolding occurrences
bit_sum [] h = omega arith
bit_sum (x ∷ w) h =
    same? x 1
    (λ e. rw e (omega (arith, bit_sum w (λ q l. h (suc q) (omega arith)))))
    (λ e. rw (bit_zero x (h 0 (omega arith)) e) (omega (arith, bit_sum w (λ q l. h (suc q) (omega arith)))))

-- in an odd number of bits there is no tie
pub bits_commonest : (w : List ℕ) (m : ℕ) → length w ≡ m + m + 1 → ((q : ℕ) → q < length w → get_or w q 0 < 2)
    → commonest w ≡ cond (ltb (m + m + 1) (occurrences 1 w + occurrences 1 w)) 1 0
bits_commonest w m n h =
    tested (ltb (m + m + 1) (occurrences 1 w + occurrences 1 w))
    (λ t. let l = ltb-true (m + m + 1) (occurrences 1 w + occurrences 1 w) t in
    rw t (majority w 1 (omega (arith, bit_sum w h)) (omega arith) (λ q k e. rw (bit_zero (get_or w q 0) (h q k) e) (omega (arith, bit_sum w h)))))
    (λ t. let l = ltb-false (m + m + 1) (occurrences 1 w + occurrences 1 w) t in
    rw t (majority w 0 (omega arith) (omega (arith, bit_sum w h))
    (λ q k e. let b : get_or w q 0 ≡ 1 = omega (arith, h q k, e) in rw b (omega (arith, bit_sum w h)))))
