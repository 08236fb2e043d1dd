-- "Every answer but 0 has all counts, k and any bit 0, the four floats -1.0, the round count 0, place 0 (save number 3)", and
-- "0 in both" winner and score. Definitions only.
use Rattle.std.specs.Prelude.{ℕ, true, pos, Float}
use Rattle.std.specs.Float.{fin}
use Rattle.answer.specs.Numbers.{done}
use Rattle.answer.specs.declared.Answer.{Answer}
use Rattle.answer.specs.declared.Estimate.{Estimate}
use Rattle.answer.specs.declared.Solved.{Solved}
use Rattle.answer.specs.declared.Value.{Value}

-- -1.0
abbrev pub minus_one : Float
minus_one = fin true 1 (pos 0)

-- what stands where there is no estimate
abbrev pub no_estimate : Estimate
no_estimate =
    record {
      c = 0;
      n = 0;
      max_run_len = 0;
      p_global = minus_one;
      p_global_prime = minus_one;
      p_local = minus_one;
      min_entropy = minus_one;
    }

-- the answer of number n that names a place: number 3
abbrev pub refused_at : ℕ → ℕ → Answer
refused_at n place = record { number = n; place = place; k = 0; rounds = 0; winner = 0; score = 0; estimate = no_estimate }

-- the answer of any other number but 0
abbrev pub refused : ℕ → Answer
refused n = refused_at n 0

-- an answer of number 0: it ran; of counts alone it "carries 0 too, since it has no predictors"
abbrev pub ran : ℕ → ℕ → Estimate → Answer
ran k rounds e = record { number = done; place = 0; k = k; rounds = rounds; winner = 0; score = 0; estimate = e }

-- "A function that returns one float returns -1.0 with the number."
abbrev pub refused_value : ℕ → Value
refused_value n = record { number = n; value = minus_one }

abbrev pub refused_solved : ℕ → Solved
refused_solved n = record { number = n; rounds = 0; value = minus_one }
