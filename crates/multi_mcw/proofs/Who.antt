-- Who predicted, on both tracks: where the answer's number is 0 the winner is one of the windows, counted from 1, and its score at most N; in any other
-- answer both are 0. Assumes nothing.
use mathlib.Core.List.{List}
use Prim.Native.Nat.{ℕ}
use native.Mathlib.Omega.{arith}
use lib.ListN.{length}
use Rattle.rating.specs.Who.{Who}
use Rattle.rating.proofs.Who.{race_who, else_refused}
use Rattle.mcw_bits.specs.Mcw.{windows, first_place, said}
use Rattle.multi_mcw.specs.Tracks.{bits_number, literal_number, estimated, mcw_bits, mcw_literal}

estimated_who : (s : List ℕ) (k : ℕ) → Who (length windows) (estimated s k)
estimated_who s k = race_who (length windows) first_place (said s) s k (omega arith)

pub bits_who : (symbols : List ℕ) (w : ℕ) → Who (length windows) (mcw_bits symbols w)
unfolding mcw_bits
bits_who symbols w = else_refused (estimated_who _ _) (bits_number symbols w) _

pub literal_who : (symbols out : List ℕ) → Who (length windows) (mcw_literal symbols out)
unfolding mcw_literal
literal_who symbols out = else_refused (estimated_who _ _) (literal_number symbols out) _
