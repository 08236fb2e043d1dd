-- A table of the values that were seen, as symbols are passed: marking the value of a symbol after those of s is to have seen that symbol too, and
-- where the values of four symbols are all marked nothing is left to mark. Assumes nothing.
use mathlib.Core.Path.{◌≡◌, refl, ap, sym, ◌∙◌}
use mathlib.Core.Bool.{Bool, true, false, ◌||◌}
use mathlib.Core.List.{List, [], ◌∷◌, ◌++◌}
use Rattle.std.proofs.Math.Bool.{or_assoc, or-false, or-true}
use Prim.Native.Nat.{ℕ, zero, suc, ◌+◌, ◌≤◌, ◌<◌}
use native.Mathlib.Decide.{ℕ_discrete}
use native.Mathlib.Omega.{arith}
use borrow.Author.Tests.{ne_eqb}
use lib.ListN.{length, get_or, set, replicate, length-set, length-replicate, get_or-replicate}
use lib.Seq.{get_or-set_same, get_or-set_other}
use mir.Val.{bool_byte}
use Rattle.alphabet.specs.Alphabet.{has}
use Rattle.alphabet.proofs.Membership.{has_append, has_here, has_not_here, none_in_nil}
use Rattle.marks.specs.Inner.Seen.{Seen, Sees}

pub sees_none : (m : List Bool) → Sees m [] m
sees_none m = record { full = refl; at = λ v l. sym (ap (λ (b : Bool). get_or m v false || b) (none_in_nil v) ∙ or-false (get_or m v false)) }

pub sees_one : (m : List Bool) (x : ℕ) → x < length m → Sees m (x ∷ []) (set m x true)
sees_one m x l = record { full = length-set m x true; at = λ v k. pick v (ℕ_discrete v x) }
  where
    pick : (v : ℕ) → Dec (v ≡ x) → get_or (set m x true) v false ≡ (get_or m v false || has v (x ∷ []))
    pick v (yes q) =
        rw q
        (get_or-set_same m x true false l ∙ sym (ap (λ (b : Bool). get_or m x false || b) (has_here x) ∙ or-true (get_or m x false)))
    pick v (no n) =
        get_or-set_other m x v true false n
        ∙ sym (ap (λ (b : Bool). get_or m v false || b) (has_not_here v x n) ∙ or-false (get_or m v false))

-- more symbols
pub sees_more : {m p q : List Bool} {s t : List ℕ} → Sees m s p → Sees p t q → Sees m (s ++ t) q
sees_more {m} {p} {q} {s} {t} h g =
    record {
      full = g.full ∙ h.full;
      at = λ v l.
          g.at v (omega (arith, h.full))
          ∙ ap (λ (b : Bool). b || has v t) (h.at v l)
          ∙ or_assoc (get_or m v false) (has v s) (has v t)
          ∙ ap (λ (b : Bool). get_or m v false || b) (sym (has_append v s t));
    }

-- symbols whose values are all marked already
pub sees_same : (m : List Bool) (s : List ℕ) → ((i : ℕ) → i < length s → get_or m (get_or s i 0) false ≡ true) → Sees m s m
unfolding has
sees_same m s h = record { full = refl; at = λ v l. same v s h (get_or m v false) refl }
  where
    same : (v : ℕ) (t : List ℕ) → ((i : ℕ) → i < length t → get_or m (get_or t i 0) false ≡ true) → (b : Bool) → get_or m v false ≡ b → b ≡ (b || has v t)
    same v t k true e = refl
    same v [] k false e = sym (none_in_nil v)
    same v (x ∷ t) k false e =
        let n : v ≡ x → ⊥ = λ q. absurd (let z : true ≡ false = sym (k 0 (omega arith)) ∙ ap (λ (u : ℕ). get_or m u false) (sym q) ∙ e in cc) in
        rw (ne_eqb v x n) (same v t (λ i l. k (suc i) (omega arith)) false e)

-- four symbols whose marks add up to four
pub sees_four : (m : List Bool) (s r : List ℕ) → length s ≡ 4 → ((i : ℕ) → i < 4 → get_or r i 0 ≡ bool_byte (get_or m (get_or s i 0) false))
    → 4 ≤ get_or r 0 0 + get_or r 1 0 + get_or r 2 0 + get_or r 3 0 → Sees m s m
sees_four m s r n e l = sees_same m s (λ i k. marked (get_or m (get_or s i 0) false) (omega (arith, at_least i (omega arith), e i (omega arith))))
  where
    byte_le : (b : Bool) → bool_byte b ≤ 1
    byte_le true = omega arith
    byte_le false = omega arith

    marked : (b : Bool) → 1 ≤ bool_byte b → b ≡ true
    marked true g = refl
    marked false g = absurd (let z : 1 ≤ 0 = omega arith in omega arith)

    at_most : (i : ℕ) → i < 4 → get_or r i 0 ≤ 1
    at_most i k = omega (arith, e i k, byte_le (get_or m (get_or s i 0) false))

    at_least : (i : ℕ) → i < 4 → 1 ≤ get_or r i 0
    at_least zero k = omega (arith, at_most 1 (omega arith), at_most 2 (omega arith), at_most 3 (omega arith))
    at_least (suc zero) k = omega (arith, at_most 0 (omega arith), at_most 2 (omega arith), at_most 3 (omega arith))
    at_least (suc (suc zero)) k = omega (arith, at_most 0 (omega arith), at_most 1 (omega arith), at_most 3 (omega arith))
    at_least (suc (suc (suc zero))) k = omega (arith, at_most 0 (omega arith), at_most 1 (omega arith), at_most 2 (omega arith))
    at_least (suc (suc (suc (suc i)))) k = absurd (let z : 1 ≤ 0 = omega arith in omega arith)

-- of an empty table
pub seen_all : {s : List ℕ} {m : List Bool} → Sees (replicate 256 false) s m → Seen s m
seen_all {s} h =
    let n : length (replicate 256 false) ≡ 256 = length-replicate 256 false in
    record { full = h.full ∙ n; at = λ v l. h.at v (omega (arith, n)) ∙ ap (λ (b : Bool). b || has v s) (get_or-replicate 256 v false false l) }
