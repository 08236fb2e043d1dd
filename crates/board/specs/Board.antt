-- The board figure, of the four answers in the order MultiMCW bits, MultiMCW literal, MultiMMC bits, MultiMMC literal. Definitions only.
use Rattle.std.specs.Prelude.{ℕ, Bool, true, not, ◌&&◌, ◌||◌, cond, eqb, Float}
use Rattle.std.specs.Float.{binary64}
use Rattle.std.specs.Float.Ieee.{mul, lt, le}
use Rattle.rounding.specs.Doubles.{zero, one, eight, whole}
use Rattle.answer.specs.Numbers.{done, out_of_range, not_run, bad_width, given}
use Rattle.answer.specs.Refused.{minus_one}
use Rattle.answer.specs.declared.Answer.{Answer}
use Rattle.capture.specs.Limit.{no_width}
use Rattle.board.specs.declared.given.Figure.{Figure}

-- the answer of a number that is not 0
abbrev pub refused_figure : ℕ → Figure
refused_figure n = record { number = n; which = 0; value = minus_one }

-- "A refused one: its number (5 for a number not given by then)"; 0 where it ran or was not run
unfoldable pub refusal_of : ℕ → ℕ
refusal_of n = cond (eqb n done || eqb n not_run) 0 (cond (given n) n out_of_range)

-- "the first in that order"
abbrev pub first_of : ℕ → ℕ → ℕ
first_of a b = cond (eqb a 0) b a

unfoldable pub ran : Answer → Bool
ran a = eqb a.number done

-- "among those that ran, an entropy outside 0..8 (bits: 0..1)"; a NaN is outside
unfoldable pub in_range : Answer → Float → Bool
in_range a top = cond (ran a) (le zero a.estimate.min_entropy && le a.estimate.min_entropy top) true

-- an estimate's own figure
abbrev pub entry : ℕ → Float → Figure
entry which value = record { number = done; which = which; value = value }

-- "the smallest, the earliest on equality (both zeros are equal)"
unfoldable pub smaller : Figure → Figure → Figure
smaller a b = cond (lt b.value a.value) b a

-- "bit values times the .. width"
unfoldable pub per_symbol : Answer → ℕ → Float
per_symbol a width = mul binary64 a.estimate.min_entropy (whole width)

module _ (mcw_bits mcw_literal mmc_bits mmc_literal : Answer) where
  unfoldable pub refusal : ℕ
  refusal =
      first_of (refusal_of mcw_bits.number)
      (first_of (refusal_of mcw_literal.number) (first_of (refusal_of mmc_bits.number) (refusal_of mmc_literal.number)))

  unfoldable pub all_in_range : Bool
  all_in_range = in_range mcw_bits one && (in_range mcw_literal eight && (in_range mmc_bits one && in_range mmc_literal eight))

  unfoldable pub all_ran : Bool
  all_ran = ran mcw_bits && (ran mcw_literal && (ran mmc_bits && ran mmc_literal))

  -- 7 "first in the board figure"; "a refused estimate still comes before 6"; "Then .. 5."; "6 unless all four ran"
  unfoldable pub figure_number : ℕ → ℕ
  figure_number width =
      cond (no_width width) bad_width (first_of refusal (cond (not all_in_range) out_of_range (cond (not all_ran) not_run done)))

  unfoldable pub smallest : ℕ → Figure
  smallest width =
      smaller
      (smaller (smaller (entry 1 (per_symbol mcw_bits width)) (entry 2 mcw_literal.estimate.min_entropy)) (entry 3 (per_symbol mmc_bits width)))
      (entry 4 mmc_literal.estimate.min_entropy)

  unfoldable pub figure_of : ℕ → Figure
  figure_of width = cond (eqb (figure_number width) done) (smallest width) (refused_figure (figure_number width))
