-- Where a symbol stands last among the first samples. Assumes nothing.
use mathlib.Core.Path.{◌≡◌, sym, ap, ◌∙◌}
use mathlib.Core.Bool.{Bool, true, false, cond}
use mathlib.Core.List.{List}
use Prim.Native.Nat.{ℕ, zero, suc, ◌+◌, ◌≤◌, ◌<◌}
use native.Mathlib.Numerals.{add-one}
use native.Mathlib.Omega.{arith}
use lib.Dec.{eqb}
use lib.ListN.{length, get_or}
use borrow.Author.Tests.{eq-eqb, ne_eqb, eqb-true, eqb-false}
use Rattle.race.proofs.Cases.{tested, same?}
use Rattle.mcw_bits.specs.Inner.Counts.{before}
use Rattle.mcw_bits.proofs.Counting.{before_other}
use Rattle.mcw_symbols.specs.Inner.Samples.{last}

pub last_same : (s : List ℕ) (x i : ℕ) → get_or s i 0 ≡ x → last s x (i + 1) ≡ i + 1
unfolding last
last_same s x i e = rw (add-one i, eq-eqb x (get_or s i 0) (sym e))

pub last_other : (s : List ℕ) (x i : ℕ) → (get_or s i 0 ≡ x → ⊥) → last s x (i + 1) ≡ last s x i
unfolding last
last_other s x i e = rw (add-one i, ne_eqb x (get_or s i 0) (λ q. e (sym q)))

pub last_le : (s : List ℕ) (x i : ℕ) → last s x i ≤ i
unfolding last
last_le s x zero = omega arith
last_le s x (suc i) = go (eqb x (get_or s i 0)) (last_le s x i)
  where
    go : (b : Bool) → last s x i ≤ i → cond b (suc i) (last s x i) ≤ suc i
    go true l = omega arith
    go false l = omega arith

-- the latest place of x is at q or later, where q has it
pub last_past : (s : List ℕ) (x i q : ℕ) → q < i → get_or s q 0 ≡ x → q < last s x i
unfolding last
last_past s x zero q l e = omega arith
last_past s x (suc i) q l e =
    tested (eqb x (get_or s i 0))
    (λ t. rw t l)
    (λ t. rw t (last_past s x i q (same? q i (λ w. absurd (eqb-false x (get_or s i 0) t (sym e ∙ ap (λ (n : ℕ). get_or s n 0) w))) (λ w. omega arith)) e))

-- and x stands there
pub last_has : (s : List ℕ) (x i p : ℕ) → last s x i ≡ p + 1 → get_or s p 0 ≡ x
unfolding last
last_has s x zero p e = absurd (omega arith)
last_has s x (suc i) p e =
    tested (eqb x (get_or s i 0))
    (λ t. let u : i ≡ p = (let v : suc i ≡ p + 1 = rw t at e in omega arith) in ap (λ (n : ℕ). get_or s n 0) (sym u) ∙ sym (eqb-true x (get_or s i 0) t))
    (λ t. last_has s x i p (rw t at e))

-- past the latest place there is no more of it
pub last_none : (s : List ℕ) (x m n : ℕ) → m + n ≤ length s → last s x (m + n) ≤ m → before s x (m + n) ≡ before s x m
last_none s x m zero h l = let e : m + zero ≡ m = omega arith in ap (before s x) e
last_none s x m (suc n) h l =
    let e : m + suc n ≡ m + n + 1 = omega arith in
    let l' : last s x (m + n + 1) ≤ m = rw e at l in
    same? (get_or s (m + n) 0) x
    (λ w. absurd (let z : last s x (m + n + 1) ≡ m + n + 1 = last_same s x (m + n) w in omega arith))
    (λ w. rw e (before_other s x (m + n) (omega arith) w ∙ last_none s x m n (omega arith) (omega (arith, last_other s x (m + n) w))))
