-- The first n values of a function, as a list. Assumes nothing.
use Prim.Native.Nat.{ℕ, zero, suc, ◌<◌}
use mathlib.Core.Path.{◌≡◌, refl, sym, ap, ◌∙◌}
use mathlib.Core.List.{List, [], ◌∷◌, ◌++◌}
use native.Mathlib.Omega.{arith}
use lib.ListN.{set, replicate, length-set}
use lib.Seq.{ext_get_or, get_or-set_same, get_or-set_other}
use lib.Dec.{eqb}
use borrow.Author.Tests.{eqb-true, eqb-false}
use Rattle.capture.specs.Bits.{table}
use Rattle.capture.proofs.Bitstring.{table_length, table_at}
use Rattle.race.proofs.Cases.{tested}

pub table_same : (n : ℕ) (f g : ℕ → ℕ) → ((k : ℕ) → f k ≡ g k) → table n f ≡ table n g
unfolding table
table_same zero f g e = refl
table_same (suc n) f g e = rw (table_same n f g e, e n) refl

-- a store of one value more
pub table_set : (n : ℕ) (f g : ℕ → ℕ) (k v : ℕ) → v ≡ g k → ((j : ℕ) → (k ≡ j → ⊥) → g j ≡ f j) → set (table n f) k v ≡ table n g
table_set n f g k v e o = ext_get_or 0 (set (table n f) k v) (table n g)
    (length-set (table n f) k v ∙ table_length n f ∙ sym (table_length n g))
    (λ j l. let lt : j < n = omega (arith, length-set (table n f) k v, table_length n f) in
    tested (eqb k j)
    (λ t. let q : k ≡ j = eqb-true _ _ t in
    rw (sym q) (get_or-set_same (table n f) k v 0 (omega (arith, table_length n f)) ∙ e ∙ sym (table_at n g k (omega arith))))
    (λ t. let q : k ≡ j → ⊥ = eqb-false _ _ t in
    get_or-set_other (table n f) k j v 0 (λ z. q (sym z)) ∙ table_at n f j lt ∙ sym (o j q) ∙ sym (table_at n g j lt)))

replicate_more : (m v : ℕ) → replicate {A = ℕ} (suc m) v ≡ replicate m v ++ (v ∷ [])
replicate_more zero v = refl
replicate_more (suc m) v = ap (λ (t : List ℕ). v ∷ t) (replicate_more m v)

pub table_zeros : (n : ℕ) → table n (λ _. 0) ≡ replicate n 0
unfolding table
table_zeros zero = refl
table_zeros (suc n) = rw (table_zeros n) (sym (replicate_more n 0))
