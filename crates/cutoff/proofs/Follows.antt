-- A table's rule, proved at every entry by one test that antt computes over the whole table: an entry that breaks the rule makes the test false.
-- The rule is counted from any number, so that a table whose first entry is number 1 needs no other law. Assumes nothing.
use mathlib.Core.Path.{◌≡◌, sym, ap, ◌∙◌}
use mathlib.Core.Bool.{Bool, true, ◌&&◌}
use mathlib.Core.List.{List, [], ◌∷◌}
use Prim.Native.Nat.{ℕ, zero, suc, ◌+◌, ◌-◌, ◌≤◌, ◌<◌}
use native.Mathlib.Nat.{add-zero, add-suc, suc-add, le_of_suc-le-suc, not-suc-le-zero}
use native.Mathlib.Omega.{arith}
use lib.Dec.{T, eqb, eqb→eq}
use lib.ListN.{length, get_or}
use lib.Ieee.Fits.{and_l, and_r}

-- the entries are rule i, rule (i + 1) and so on
abbrev pub follows : (ℕ → ℕ) → ℕ → List ℕ → Bool
follows rule i [] = true
follows rule i (x ∷ xs) = eqb x (rule i) && follows rule (suc i) xs

from : (rule : ℕ → ℕ) (i : ℕ) (xs : List ℕ) → T (follows rule i xs) → (k : ℕ) → k < length xs → get_or xs k 0 ≡ rule (i + k)
from rule i [] t k h = absurd (not-suc-le-zero h)
from rule i (x ∷ xs) t zero h = eqb→eq x (rule i) (and_l (eqb x (rule i)) (follows rule (suc i) xs) t) ∙ ap rule (sym (add-zero i))
from rule i (x ∷ xs) t (suc k) h =
    from rule (suc i) xs (and_r (eqb x (rule i)) (follows rule (suc i) xs) t) k (le_of_suc-le-suc h)
    ∙ ap rule (suc-add i k ∙ sym (add-suc i k))

pub at : (rule : ℕ → ℕ) (i : ℕ) (xs : List ℕ) → T (follows rule i xs) → (j : ℕ) → i ≤ j → j - i < length xs → get_or xs (j - i) 0 ≡ rule j
at rule i xs t j h l = from rule i xs t (j - i) l ∙ ap rule (back i j h)
  where
    back : (i j : ℕ) → i ≤ j → i + (j - i) ≡ j
    back i j h = omega arith
