-- What the board figure is to a caller that has no enum: the figure of what is given, or of a refusal, and the place that a refusal names. Definitions only.
use Rattle.std.specs.Prelude.{ℕ, cond, eqb, Result, Ok, Err}
use Rattle.answer.specs.Numbers.{too_wide}
use Rattle.answer.specs.Results.{number_of, place_of}
use Rattle.answer.specs.declared.Answer.{Answer}
use Rattle.answer.specs.declared.Refusal.{Refusal}
use Rattle.board.specs.Board.{entry, figure_number, refusal_of, refused_figure}
use Rattle.board.specs.declared.given.Figure.{Figure}
use Rattle.board.specs.declared.given.Given.{Given}
use Rattle.board.specs.declared.given.Which.{Which}
use Rattle.board.specs.declared.given.Which.TheVariants.{McwBits, McwLiteral, MmcBits, MmcLiteral}

-- an estimate's number
abbrev pub which_number : Which → ℕ
which_number McwBits = 1
which_number McwLiteral = 2
which_number MmcBits = 3
which_number MmcLiteral = 4

-- the figure that is given
abbrev pub entry_of : Given → Figure
entry_of g = entry (which_number g.which) g.value

abbrev pub figure_in : Result Given Refusal → Figure
figure_in (Ok g) = entry_of g
figure_in (Err e) = refused_figure (number_of e)

-- the place that a refusal names
abbrev pub place_in : Result Given Refusal → ℕ
place_in (Ok g) = 0
place_in (Err e) = place_of e

-- the place that an answer names: number 3
abbrev pub place_of_answer : Answer → ℕ
place_of_answer a = cond (eqb a.number too_wide) a.place 0

-- the place of the first that is refused
module _ (mcw_bits mcw_literal mmc_bits mmc_literal : Answer) where
  unfoldable pub refused_place : ℕ
  refused_place =
      cond (eqb (refusal_of mcw_bits.number) 0)
      (cond (eqb (refusal_of mcw_literal.number) 0)
      (cond (eqb (refusal_of mmc_bits.number) 0) (place_of_answer mmc_literal) (place_of_answer mmc_bits))
      (place_of_answer mcw_literal))
      (place_of_answer mcw_bits)

  -- where the figure is refused by number 3
  abbrev pub told_place : ℕ → ℕ
  told_place width = cond (eqb (figure_number mcw_bits mcw_literal mmc_bits mmc_literal width) too_wide) refused_place 0
