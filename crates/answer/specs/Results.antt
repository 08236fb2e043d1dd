-- What a result of the library is to a caller that has no enum: a number, a place and the fields, or the float. Definitions only.
use Rattle.std.specs.Prelude.{ℕ, Float, Result, Ok, Err}
use Rattle.answer.specs.Numbers.{done, too_long, too_short, too_wide, impossible, out_of_range, not_run, bad_width, bad_frame, bad_answer, bad_state}
use Rattle.answer.specs.Refused.{ran, refused_at, refused_solved, refused_value}
use Rattle.answer.specs.declared.Answer.{Answer}
use Rattle.answer.specs.declared.Estimated.{Estimated}
use Rattle.answer.specs.declared.Rated.{Rated}
use Rattle.answer.specs.declared.Refusal.{Refusal}
use Rattle.answer.specs.declared.Refusal.TheVariants.{TooLong, TooShort, TooWide, Impossible, OutOfRange, NotRun, BadWidth, BadFrame, BadAnswer, BadState}
use Rattle.answer.specs.declared.Solution.{Solution}
use Rattle.answer.specs.declared.Solved.{Solved}
use Rattle.answer.specs.declared.Value.{Value}

-- the number of a refusal
abbrev pub number_of : Refusal → ℕ
number_of TooLong = too_long
number_of TooShort = too_short
number_of (TooWide place) = too_wide
number_of Impossible = impossible
number_of OutOfRange = out_of_range
number_of NotRun = not_run
number_of BadWidth = bad_width
number_of BadFrame = bad_frame
number_of BadAnswer = bad_answer
number_of BadState = bad_state

-- "place 0 (save number 3)"
abbrev pub place_of : Refusal → ℕ
place_of (TooWide place) = place
place_of TooLong = 0
place_of TooShort = 0
place_of Impossible = 0
place_of OutOfRange = 0
place_of NotRun = 0
place_of BadWidth = 0
place_of BadFrame = 0
place_of BadAnswer = 0
place_of BadState = 0

-- the number of a result
abbrev pub number_in : {A : Type 0} → Result A Refusal → ℕ
number_in (Ok x) = done
number_in (Err e) = number_of e

-- the answer of a refusal
abbrev pub refused_by : Refusal → Answer
refused_by e = refused_at (number_of e) (place_of e)

-- the answer of counts alone
abbrev pub answer_of : Result Estimated Refusal → Answer
answer_of (Ok e) = ran e.k e.rounds e.estimate
answer_of (Err e) = refused_by e

-- the answer of a race: with its winner and the winner's score
abbrev pub rated_answer : Result Rated Refusal → Answer
rated_answer (Ok r) =
    record {
      number = done;
      place = 0;
      k = r.estimated.k;
      rounds = r.estimated.rounds;
      winner = r.winner;
      score = r.score;
      estimate = r.estimated.estimate;
    }
rated_answer (Err e) = refused_by e

abbrev pub value_of : Result Float Refusal → Value
value_of (Ok x) = record { number = done; value = x }
value_of (Err e) = refused_value (number_of e)

abbrev pub solved_of : Result Solution Refusal → Solved
solved_of (Ok s) = record { number = done; rounds = s.rounds; value = s.value }
solved_of (Err e) = refused_solved (number_of e)
