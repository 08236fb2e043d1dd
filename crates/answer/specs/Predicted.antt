-- "The shared record gains the final winner (window or level, from 1) and its score." Definitions only.
use Rattle.std.specs.Prelude.{ℕ, cond, eqb}
use Rattle.answer.specs.Numbers.{done}
use Rattle.answer.specs.declared.Answer.{Answer}

-- the answer with a winner and its score; "Answers other than 0 carry 0 in both", as they stand
abbrev pub predicted_by : ℕ → ℕ → Answer → Answer
predicted_by winner score a =
    cond (eqb a.number done)
    (record {
      number = done;
      place = a.place;
      k = a.k;
      rounds = a.rounds;
      winner = winner;
      score = score;
      estimate = a.estimate;
    })
    a
