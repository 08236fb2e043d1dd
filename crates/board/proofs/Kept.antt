-- The figure that C gets, with the place that a refusal names, tells the result: nothing of it is lost. Assumes nothing.
use mathlib.Core.Path.{◌≡◌, refl, ap}
use mathlib.Core.Bool.{cond}
use Prim.Native.Nat.{ℕ}
use lib.Dec.{eqb}
use Rattle.std.specs.Prelude.{Result, Ok, Err}
use Rattle.answer.proofs.Results.{held, held_kept}
use Rattle.answer.specs.declared.Refusal.{Refusal}
use Rattle.board.specs.Given.{figure_in, place_in, which_number}
use Rattle.board.specs.declared.given.Figure.{Figure}
use Rattle.board.specs.declared.given.Given.{Given}
use Rattle.board.specs.declared.given.Which.{Which}
use Rattle.board.specs.declared.given.Which.TheVariants.{McwBits, McwLiteral, MmcBits, MmcLiteral}

abbrev which_at : ℕ → Which
which_at n = cond (eqb n 1) McwBits (cond (eqb n 2) McwLiteral (cond (eqb n 3) MmcBits MmcLiteral))

abbrev pub given_in : Figure → ℕ → Result Given Refusal
given_in f place = held (record { which = which_at f.which; value = f.value }) f.number place

which_kept : (w : Which) → which_at (which_number w) ≡ w
which_kept McwBits = refl
which_kept McwLiteral = refl
which_kept MmcBits = refl
which_kept MmcLiteral = refl

pub given_kept : (r : Result Given Refusal) → given_in (figure_in r) (place_in r) ≡ r
given_kept (Ok g) = ap (λ (w : Which). Ok (record { which = w; value = g.value })) (which_kept g.which)
given_kept (Err e) = held_kept _ e
