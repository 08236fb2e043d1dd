-- What a sample makes of the count, by the fields alone: a sample that is the last one again adds one, as far as the cutoff, and another begins anew. Definitions only.
use Rattle.std.specs.Prelude.{cond, ℕ, ◌+◌, eqb, ltb}
use Rattle.repetition.specs.declared.step.RepetitionTest.{RepetitionTest}

unfoldable pub counted : RepetitionTest → ℕ → ℕ
counted st x = cond (eqb x st.last_sample) (cond (ltb st.count st.cutoff) (st.count + 1) st.count) 1
