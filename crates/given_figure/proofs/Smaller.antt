-- The smaller of two figures is one of them, and above neither unless one of them is a NaN. Assumes nothing.
use mathlib.Core.Path.{◌≡◌, refl}
use mathlib.Core.Bool.{Bool, true, false, not, cond}
use lib.Dec.{T}
use lib.Ieee.{is_nan, lt, le}
use Rattle.rounding.proofs.Order.{le_itself, le_of_not_lt}
use Rattle.rounding.proofs.Compare.{le_of_lt}
use Rattle.board.specs.declared.given.Figure.{Figure}
use Rattle.board.specs.Board.{smaller}

pub smaller_below : (a b : Figure) → T (not (is_nan a.value)) → T (not (is_nan b.value))
    → T (le (smaller a b).value a.value) × T (le (smaller a b).value b.value)
unfolding smaller
smaller_below a b p q = go (lt b.value a.value) refl
  where
    go : (t : Bool) → lt b.value a.value ≡ t → T (le (cond t b a).value a.value) × T (le (cond t b a).value b.value)
    go true e = (le_of_lt b.value a.value e, le_itself b.value q)
    go false e = (le_itself a.value p, le_of_not_lt a.value b.value p q e)

-- what holds of both holds of the smaller
pub smaller_has : (P : Figure → Type 0) (a b : Figure) → P a → P b → P (smaller a b)
unfolding smaller
smaller_has P a b p q = go (lt b.value a.value)
  where
    go : (t : Bool) → P (cond t b a)
    go true = q
    go false = p
