-- "reads up to 16,384 bytes of standard input as a literal capture (more: answer 1)". Definitions only.
use Rattle.std.specs.Prelude.{ℕ, cond, List, ltb, length}
use Rattle.answer.specs.Numbers.{too_long}
use Rattle.answer.specs.Refused.{refused}
use Rattle.answer.specs.declared.Answer.{Answer}
use Rattle.multi_mcw.specs.Tracks.{mcw_literal, mcw_literal_output}

abbrev pub report_limit : ℕ
report_limit = 16384

-- the answer that is reported, with the output lent for the translation
unfoldable pub report_of : List ℕ → List ℕ → Answer
unfolding mcw_literal
report_of symbols out = cond (ltb report_limit (length symbols)) (refused too_long) (mcw_literal symbols out)

-- what is left in that output
unfoldable pub report_output : List ℕ → List ℕ → List ℕ
unfolding mcw_literal_output
report_output symbols out = cond (ltb report_limit (length symbols)) out (mcw_literal_output symbols out)
