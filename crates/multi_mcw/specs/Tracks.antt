-- What MultiMCW answers on each track, refusals in the order 1, 7, 6, 2, 3. Definitions only.
use Rattle.std.specs.Prelude.{ℕ, cond, false, List, eqb, ltb, length}
use Rattle.answer.specs.Numbers.{done, too_long, too_short, not_run}
use Rattle.answer.specs.Refused.{refused}
use Rattle.answer.specs.declared.Answer.{Answer}
use Rattle.alphabet.specs.Alphabet.{dense, distinct, written}
use Rattle.capture.specs.Bits.{bit_count, bits_of}
use Rattle.capture.specs.Limit.{over_limit}
use Rattle.capture.specs.Refusals.{bits_refusal, refused_on}
use Rattle.race.specs.Race.{predictions}
use Rattle.rating.specs.Rating.{rating_of}
use Rattle.mcw_bits.specs.Mcw.{first_place, least_samples, outcome_of}

-- the answer from the race over a list of samples of k symbols: C, N, the longest run, and who won
abbrev pub estimated : List ℕ → ℕ → Answer
estimated s k = rating_of (outcome_of s) (predictions first_place s) k

-- the bitstring track: "A sample is a bit", and "k is 2 on bits"
abbrev pub bits_number : List ℕ → ℕ → ℕ
bits_number symbols w = bits_refusal symbols w least_samples false

unfoldable pub mcw_bits : List ℕ → ℕ → Answer
mcw_bits symbols w =
    cond (eqb (bits_number symbols w) done) (estimated (bits_of symbols w (bit_count symbols w)) 2)
    (refused_on symbols (bits_number symbols w))

-- the number by which the literal track, which has no width, is refused, and `done` where it is not; "the literal tracks need an output as long as
-- the capture"
abbrev pub literal_number : List ℕ → List ℕ → ℕ
literal_number symbols out =
    cond (over_limit symbols) too_long
    (cond (ltb (length symbols) least_samples) not_run
    (cond (ltb (length out) (length symbols)) too_short done))

-- the literal track: the samples are the symbols numbered by first sight, and k is "the alphabet size on literals"
unfoldable pub mcw_literal : List ℕ → List ℕ → Answer
mcw_literal symbols out =
    cond (eqb (literal_number symbols out) done) (estimated (dense symbols) (distinct symbols)) (refused (literal_number symbols out))

-- "After answer 0 the output's first bytes are the translated symbols", and all beyond is unchanged; on a refusal "lent memory unchanged"
unfoldable pub mcw_literal_output : List ℕ → List ℕ → List ℕ
mcw_literal_output symbols out = cond (eqb (literal_number symbols out) done) (written (dense symbols) out) out
