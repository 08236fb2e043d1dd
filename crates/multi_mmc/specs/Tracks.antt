-- What MultiMMC answers on each track, refusals in the order 1, 7, 6, 2, 3, and what it leaves in lent memory. Definitions only.
use Rattle.std.specs.Prelude.{ℕ, Bool, cond, ◌||◌, List, eqb, leb, ltb, length}
use Rattle.answer.specs.Numbers.{done, too_long, too_short, not_run}
use Rattle.answer.specs.Refused.{refused}
use Rattle.answer.specs.declared.Answer.{Answer}
use Rattle.alphabet.specs.Alphabet.{sorted, distinct, written}
use Rattle.capture.specs.Bits.{bit_count, bits_of}
use Rattle.capture.specs.Limit.{over_limit}
use Rattle.capture.specs.Refusals.{bits_refusal, refused_on}
use Rattle.race.specs.Race.{predictions}
use Rattle.race.specs.declared.Outcome.{Outcome}
use Rattle.rating.specs.Rating.{rating_of}
use Rattle.mmc_bits.specs.Levels.{levels, cap, first_place}
use Rattle.mmc_bits.specs.Mmc as Bits
use Rattle.mmc_bits.specs.Space as BitSpace
use Rattle.mmc_store.specs.Mmc as Store
use Rattle.mmc_store.specs.Space as StoreSpace

-- "fewer than 4 samples" are not run
abbrev pub least_samples : ℕ
least_samples = 4

-- the answer from a race over a list of samples of k symbols: C, N, the longest run, and who won; "N = length - 2"
abbrev pub estimated : Outcome → List ℕ → ℕ → Answer
estimated outcome s k = rating_of outcome (predictions first_place s) k

-- that of a list of bits, and of a list of more than two values
unfoldable pub bits_estimate : List ℕ → Answer
bits_estimate b = estimated (Bits.outcome_of levels cap b) b 2

unfoldable pub store_estimate : List ℕ → ℕ → Answer
store_estimate s k = estimated (Store.outcome_of levels cap s) s k

-- the bitstring track: "A sample is a bit", "Binary MultiMMC needs 262,140 u32 counters"
abbrev pub bits_of_capture : List ℕ → ℕ → List ℕ
bits_of_capture symbols w = bits_of symbols w (bit_count symbols w)

unfoldable pub bits_number : List ℕ → ℕ → List ℕ → ℕ
bits_number symbols w counters = bits_refusal symbols w least_samples (ltb (length counters) (BitSpace.size levels))

unfoldable pub mmc_bits : List ℕ → ℕ → List ℕ → Answer
mmc_bits symbols w counters =
    cond (eqb (bits_number symbols w counters) done) (bits_estimate (bits_of_capture symbols w))
    (refused_on symbols (bits_number symbols w counters))

-- "Binary space holds the counts"; on a refusal "lent memory unchanged"
unfoldable pub mmc_bits_space : List ℕ → ℕ → List ℕ → List ℕ
mmc_bits_space symbols w counters =
    cond (eqb (bits_number symbols w counters) done) (BitSpace.final levels cap (bits_of_capture symbols w) counters) counters

-- the literal track: "A literal MultiMMC capture with at most two distinct values is binary."
abbrev pub binary : List ℕ → Bool
binary symbols = leb (distinct symbols) 2

-- the numbers of work space it needs
unfoldable pub needed : List ℕ → ℕ
needed symbols = cond (binary symbols) (BitSpace.size levels) (StoreSpace.size levels)

unfoldable pub literal_number : List ℕ → List ℕ → List ℕ → ℕ
literal_number symbols out space =
    cond (over_limit symbols) too_long
    (cond (ltb (length symbols) least_samples) not_run
    (cond (ltb (length out) (length symbols) || ltb (length space) (needed symbols)) too_short done))

-- the symbols numbered in rising order; "k is the alphabet size; for at most two values it is 2"
unfoldable pub literal_estimate : List ℕ → Answer
literal_estimate symbols = cond (binary symbols) (bits_estimate (sorted symbols)) (store_estimate (sorted symbols) (distinct symbols))

unfoldable pub mmc_literal : List ℕ → List ℕ → List ℕ → Answer
mmc_literal symbols out space =
    cond (eqb (literal_number symbols out space) done) (literal_estimate symbols) (refused (literal_number symbols out space))

unfoldable pub mmc_literal_output : List ℕ → List ℕ → List ℕ → List ℕ
mmc_literal_output symbols out space = cond (eqb (literal_number symbols out space) done) (written (sorted symbols) out) out

-- "Binary space holds the counts .. The first 16,777,216 numbers of general space are zero."
unfoldable pub mmc_literal_space : List ℕ → List ℕ → List ℕ → List ℕ
mmc_literal_space symbols out space =
    cond (eqb (literal_number symbols out space) done)
    (cond (binary symbols) (BitSpace.final levels cap (sorted symbols) space) (StoreSpace.final levels space)) space
