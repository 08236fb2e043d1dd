-- The counts of MultiMCW can be, so that the estimate never refuses them: an answer's number is that of the track's own refusals, or 0. Assumes nothing.
use mathlib.Core.Path.{◌≡◌, ◌∙◌}
use mathlib.Core.Bool.{false, ◌&&◌}
use mathlib.Core.List.{List}
use Prim.Native.Nat.{ℕ, ◌*◌, ◌≤◌, ◌<◌}
use native.Mathlib.Nat.{le_trans, mul-le-mul_left, mul-le-mul_right}
use native.Mathlib.Omega.{arith}
use lib.Dec.{eqb, ltb}
use lib.ListN.{length}
use borrow.Author.Tests.{ltb-true, ltb-false, le-ltb, ne_eqb}
use Rattle.answer.specs.Numbers.{done}
use Rattle.alphabet.specs.Alphabet.{dense, distinct}
use Rattle.capture.specs.Bits.{bits_of}
use Rattle.capture.specs.Limit.{symbol_limit}
use Rattle.alphabet.proofs.Alphabets.{Bytes}
use Rattle.capture.proofs.Bitstring.{bits_length}
use Rattle.capture.proofs.Limits.{Width}
use Rattle.counts.specs.Counts.{count_limit, impossible_counts}
use Rattle.prediction.specs.Estimate.{estimate_of, estimated_of}
use Rattle.race.proofs.Cases.{tested}
use Rattle.race.proofs.Standing.{correct_le, run_le_correct, correct_run}
use Rattle.race.specs.Race.{sample, predictions}
use Rattle.rating.proofs.Rated.{rated_number}
use Rattle.mcw_bits.specs.Mcw.{first_place, said, least_samples, outcome_of}
use Rattle.multi_mcw.specs.Tracks.{estimated, literal_number, mcw_literal}
use Rattle.multi_mcw.proofs.Translated.{dense_length, dense_samples}

-- the longest capture has as many bits as the estimate takes predictions
limits : symbol_limit * 8 ≤ count_limit
unfolding symbol_limit count_limit
limits = omega arith

some_run : (c run : ℕ) → (0 < c → 0 < run) → (ltb 0 c && eqb run 0) ≡ false
some_run c run f = tested (ltb 0 c) (λ t. rw (t, ne_eqb run 0 (λ e. omega (arith, f (ltb-true _ _ t))))) (λ t. rw t)

can_be : (c n run k : ℕ) → c ≤ n → run ≤ c → (0 < c → 0 < run) → 1 ≤ k → k ≤ 256 → n ≤ count_limit → impossible_counts c n run k ≡ false
unfolding impossible_counts
can_be c n run k a b f d e g = rw (le-ltb n c a, le-ltb c run b, some_run c run f, le-ltb k 1 d, le-ltb 256 k e, le-ltb count_limit n g)

-- C <= N, run <= C, and C > 0 implies run > 0
module _ (s : List ℕ) (k : ℕ) (least : 1 ≤ k) (most : k ≤ 256) (few : length s ≤ count_limit) where
  pub counts_can_be : impossible_counts (outcome_of s).hits (predictions first_place s) (outcome_of s).longest k ≡ false
  counts_can_be =
      can_be (outcome_of s).hits (predictions first_place s) (outcome_of s).longest k
      (correct_le 4 63 (said s) (sample s) (predictions first_place s))
      (run_le_correct 4 63 (said s) (sample s) (predictions first_place s))
      (correct_run 4 63 (said s) (sample s) (predictions first_place s))
      least most (omega arith)

  pub ran : (estimated s k).number ≡ done
  unfolding estimate_of estimated_of
  ran = rated_number (outcome_of s) (predictions first_place s) k ∙ rw counts_can_be

pub bits_ran : (s : List ℕ) (w : ℕ) → length s ≤ symbol_limit → Width w → (estimated (bits_of s w (length s * w)) 2).number ≡ done
bits_ran s w fits width =
    let n = length s * w in
    let l : n ≤ count_limit = le_trans (le_trans (mul-le-mul_right w fits) (mul-le-mul_left symbol_limit width.narrow)) limits in
    ran (bits_of s w n) 2 (omega arith) (omega arith) (omega (arith, bits_length s w n))

literal_ran : (s : List ℕ) → Bytes s → 0 < length s → length s ≤ symbol_limit → (estimated (dense s) (distinct s)).number ≡ done
literal_ran s bytes some fits =
    let S = dense_samples s bytes some fits in
    ran (dense s) (distinct s) (omega (arith, S.some)) (omega (arith, S.few)) (omega (arith, dense_length s, limits))

-- the literal track answers 0 just where its output is written
pub literal_number_lem : (s out : List ℕ) → Bytes s → (mcw_literal s out).number ≡ literal_number s out
unfolding mcw_literal
literal_number_lem s out bytes =
    tested (ltb symbol_limit (length s)) (λ t. rw t)
    (λ t. rw t (tested (ltb (length s) least_samples) (λ u. rw u)
    (λ u. rw u (tested (ltb (length out) (length s)) (λ v. rw v)
    (λ v. rw v (literal_ran s bytes (omega (arith, ltb-false (length s) least_samples u)) (ltb-false symbol_limit (length s) t)))))))
