-- Every answer of the four estimators survives the trip: it is what a race of few enough windows or levels comes to, or a refusal by one of the numbers 1, 7,
-- 6, 2 and 3. The place that 3 names is inside a capture that is not over the limit. Assumes nothing.
use mathlib.Core.Path.{◌≡◌, refl, sym, subst}
use mathlib.Core.Bool.{Bool, true, false, cond, ◌||◌}
use mathlib.Core.List.{List}
use Prim.Native.Nat.{ℕ, ◌<◌}
use native.Mathlib.Nat.{lt_of_lt_of_le}
use native.Mathlib.Omega.{arith}
use borrow.Author.Tests.{ltb-false, lt-ltb}
use lib.Dec.{T, eqb, ltb, ltb→lt}
use lib.Ieee.Fits.{and_r}
use lib.ListN.{length}
use Rattle.alphabet.specs.Alphabet.{dense, distinct, sorted}
use Rattle.answer.proofs.Order.{first_of}
use Rattle.answer.specs.Numbers.{done, too_long, too_short, too_wide, not_run, bad_width, given}
use Rattle.answer.specs.Refused.{refused, refused_at}
use Rattle.answer.specs.declared.Answer.{Answer}
use Rattle.capture.specs.Bits.{bit_count, bits_of, first_wide, wide}
use Rattle.capture.specs.Limit.{no_width, over_limit, symbol_limit}
use Rattle.capture.specs.Refusals.{bits_refusal, refused_on}
use Rattle.mcw_bits.specs.Mcw.{least_samples, windows}
use Rattle.mmc_bits.specs.Levels.{levels}
use Rattle.mmc_bits.specs.Space.{size}
use Rattle.multi_mcw.specs.Tracks as Mcw
use Rattle.multi_mcw.specs.Tracks.{mcw_bits, mcw_literal}
use Rattle.multi_mmc.specs.Tracks as Mmc
use Rattle.multi_mmc.specs.Tracks.{
  binary,
  bits_estimate,
  bits_number,
  bits_of_capture,
  literal_estimate,
  literal_number,
  mmc_bits,
  mmc_literal,
  needed,
  store_estimate,
}
use Rattle.recordable.specs.Recordable.{placed}
use Rattle.survives.specs.Survives.{Survives}
use Rattle.survives.proofs.Estimates.{race_survives, refusal_survives}

too_long_lem : Survives (refused too_long)
unfolding given placed
too_long_lem = refusal_survives too_long 0 refl refl refl

bad_width_lem : Survives (refused bad_width)
unfolding given placed
bad_width_lem = refusal_survives bad_width 0 refl refl refl

not_run_lem : Survives (refused not_run)
unfolding given placed
not_run_lem = refusal_survives not_run 0 refl refl refl

too_short_lem : Survives (refused too_short)
unfolding given placed
too_short_lem = refusal_survives too_short 0 refl refl refl

too_wide_lem : (place : ℕ) → place < symbol_limit → Survives (refused_at too_wide place)
unfolding given placed
too_wide_lem place h = refusal_survives too_wide place refl refl (lt-ltb place symbol_limit h)

-- where a symbol is above 1, in a capture that is not over the limit
wide_place : (symbols : List ℕ) (width : ℕ) → over_limit symbols ≡ false → wide symbols width ≡ true → first_wide symbols < symbol_limit
wide_place symbols width o w =
    lt_of_lt_of_le
    (ltb→lt (first_wide symbols) (length symbols) (and_r (eqb width 1) (ltb (first_wide symbols) (length symbols)) (subst T (sym w) tt)))
    (ltb-false symbol_limit (length symbols) o)

-- what a track answers by its number survives, where its estimate is a
abbrev Answered : Answer → (ℕ → Answer) → ℕ → Type 0
Answered a refusal n = Survives (cond (eqb n done) a (refusal n))

module _ {a : Answer} (s : Survives a) where
  bits_answered : (symbols : List ℕ) (w least : ℕ) (short : Bool) → Answered a (refused_on symbols) (bits_refusal symbols w least short)
  bits_answered symbols w least short =
      let P = Answered a (refused_on symbols) in
      first_of P too_long_lem (over_limit symbols)
      (λ o. first_of P bad_width_lem (no_width w)
      (λ _. first_of P not_run_lem (ltb (bit_count symbols w) least) (λ _. first_of P too_short_lem short (λ _. by_wide o (wide symbols w) refl))))
    where
      by_wide : over_limit symbols ≡ false → (b : Bool) → wide symbols w ≡ b → Answered a (refused_on symbols) (cond b too_wide done)
      by_wide o true e = too_wide_lem (first_wide symbols) (wide_place symbols w o e)
      by_wide o false e = s

  literal_answered : (over few short : Bool) → Answered a refused (cond over too_long (cond few not_run (cond short too_short done)))
  literal_answered over few short =
      let P = Answered a refused in
      first_of P too_long_lem over (λ _. first_of P not_run_lem few (λ _. first_of P too_short_lem short (λ _. s)))

-- ---- MultiMCW
mcw_estimate_survives : (s : List ℕ) (k : ℕ) → Survives (Mcw.estimated s k)
mcw_estimate_survives s k = race_survives (length windows) _ _ s k (omega arith) (omega arith)

pub mcw_bits_survives : (symbols : List ℕ) (w : ℕ) → Survives (mcw_bits symbols w)
unfolding mcw_bits
mcw_bits_survives symbols w =
    bits_answered (mcw_estimate_survives (bits_of symbols w (bit_count symbols w)) 2) symbols w least_samples false

pub mcw_literal_survives : (symbols out : List ℕ) → Survives (mcw_literal symbols out)
unfolding mcw_literal
mcw_literal_survives symbols out =
    literal_answered (mcw_estimate_survives (dense symbols) (distinct symbols)) (over_limit symbols) (ltb (length symbols) least_samples)
    (ltb (length out) (length symbols))

-- ---- MultiMMC
bits_estimate_survives : (b : List ℕ) → Survives (bits_estimate b)
unfolding bits_estimate
bits_estimate_survives b = race_survives levels _ _ b 2 (omega arith) (omega arith)

store_estimate_survives : (s : List ℕ) (k : ℕ) → Survives (store_estimate s k)
unfolding store_estimate
store_estimate_survives s k = race_survives levels _ _ s k (omega arith) (omega arith)

pub mmc_bits_survives : (symbols : List ℕ) (w : ℕ) (counters : List ℕ) → Survives (mmc_bits symbols w counters)
unfolding mmc_bits bits_number
mmc_bits_survives symbols w counters =
    bits_answered (bits_estimate_survives (bits_of_capture symbols w)) symbols w Mmc.least_samples (ltb (length counters) (size levels))

literal_estimate_survives : (symbols : List ℕ) → Survives (literal_estimate symbols)
unfolding literal_estimate
literal_estimate_survives symbols = by_size (binary symbols)
  where
    by_size : (b : Bool) → Survives (cond b (bits_estimate (sorted symbols)) (store_estimate (sorted symbols) (distinct symbols)))
    by_size true = bits_estimate_survives (sorted symbols)
    by_size false = store_estimate_survives (sorted symbols) (distinct symbols)

pub mmc_literal_survives : (symbols out space : List ℕ) → Survives (mmc_literal symbols out space)
unfolding mmc_literal literal_number
mmc_literal_survives symbols out space =
    literal_answered (literal_estimate_survives symbols) (over_limit symbols) (ltb (length symbols) Mmc.least_samples)
    (ltb (length out) (length symbols) || ltb (length space) (needed symbols))
