-- Who predicted, on both tracks: where the answer's number is 0 the winner is one of the levels, counted from 1, and its score at most N; in any other
-- answer both are 0. Assumes nothing.
use mathlib.Core.Bool.{Bool, true, false, cond}
use mathlib.Core.List.{List}
use Prim.Native.Nat.{ℕ}
use native.Mathlib.Omega.{arith}
use Rattle.alphabet.specs.Alphabet.{distinct, sorted}
use Rattle.rating.specs.Who.{Who}
use Rattle.rating.proofs.Who.{race_who, else_refused}
use Rattle.mmc_bits.specs.Guesses as BitLevels
use Rattle.mmc_bits.specs.Levels.{levels, cap, first_place}
use Rattle.mmc_store.specs.Levels as StoreLevels
use Rattle.multi_mmc.specs.Tracks.{
  binary,
  bits_estimate,
  bits_number,
  bits_of_capture,
  literal_estimate,
  literal_number,
  mmc_bits,
  mmc_literal,
  store_estimate,
}

bits_estimate_who : (b : List ℕ) → Who levels (bits_estimate b)
unfolding bits_estimate
bits_estimate_who b = race_who levels first_place (BitLevels.guess cap b) b 2 (omega arith)

store_estimate_who : (s : List ℕ) (k : ℕ) → Who levels (store_estimate s k)
unfolding store_estimate
store_estimate_who s k = race_who levels first_place (StoreLevels.guess cap s) s k (omega arith)

literal_estimate_who : (symbols : List ℕ) → Who levels (literal_estimate symbols)
unfolding literal_estimate
literal_estimate_who symbols = by_size (binary symbols)
  where
    by_size : (b : Bool) → Who levels (cond b (bits_estimate (sorted symbols)) (store_estimate (sorted symbols) (distinct symbols)))
    by_size true = bits_estimate_who (sorted symbols)
    by_size false = store_estimate_who (sorted symbols) (distinct symbols)

pub bits_who : (symbols : List ℕ) (w : ℕ) (counters : List ℕ) → Who levels (mmc_bits symbols w counters)
unfolding mmc_bits
bits_who symbols w counters = else_refused (bits_estimate_who (bits_of_capture symbols w)) (bits_number symbols w counters) _

pub literal_who : (symbols out space : List ℕ) → Who levels (mmc_literal symbols out space)
unfolding mmc_literal
literal_who symbols out space = else_refused (literal_estimate_who symbols) (literal_number symbols out space) _
