-- The two paragraphs agree: on a list of bits the general rules of MultiMMC say at each place what the bit rules say, for any cap and any number
-- of levels, so C, the longest run, the winner and its score are the same. What is found is what is heard, and a level that is heard has the same
-- counts by both rules. Assumes nothing.
use Prim.Native.Nat.{ℕ, zero, suc, ◌+◌, ◌*◌, ◌≤◌, ◌<◌, max}
use mathlib.Core.Path.{◌≡◌, refl, sym, ap}
use mathlib.Core.Bool.{true, cond}
use mathlib.Core.List.{List}
use native.Mathlib.Omega.{arith}
use lib.ListN.{length, get_or-eq_default}
use lib.Dec.{leb, ltb}
use borrow.Author.Tests.{eq-eqb, ne_eqb, ltb-true, ltb-false, leb-true, leb-false}
use Rattle.alphabet.specs.Alphabet.{distinct, sorted}
use Rattle.alphabet.proofs.Alphabets.{Bytes, sorted_below}
use Rattle.race.specs.declared.Outcome.{Outcome}
use Rattle.race.specs.Race.{Guess, silent, says, outcome_over}
use Rattle.mmc_bits.specs.Levels.{levels, cap, first_place}
use Rattle.mmc_bits.specs.Counters.{context, counter}
use Rattle.mmc_bits.specs.Guesses.{verdict, own}
use Rattle.mmc_bits.specs.Guesses as BitLevels
use Rattle.mmc_bits.specs.Mmc as Bits
use Rattle.mmc_bits.specs.Inner.Steps.{Bits}
use Rattle.race.proofs.Cases.{tested}
use Rattle.mmc_store.specs.Counts.{count, predicted}
use Rattle.mmc_store.specs.Levels.{level}
use Rattle.mmc_store.specs.Levels as StoreLevels
use Rattle.mmc_store.specs.Mmc as Store
use Rattle.multi_mmc.specs.Tracks.{estimated, bits_estimate, store_estimate, literal_estimate}
use Rattle.multi_mmc.proofs.Translated.{sorted_length}
use Rattle.multi_mmc.proofs.Windows.{key}
use Rattle.multi_mmc.proofs.Hearing.{both, heard}
use Rattle.multi_mmc.proofs.BitCounts.{predicted_is}
use Rattle.multi_mmc.proofs.Agreeing.{found_is, agrees}

-- the verdict of two counts
verdict_is : (z o p : ℕ) → (0 < z + o → p ≡ cond (ltb o z) 0 1) → verdict z o ≡ cond (ltb 0 (z + o)) (says p) silent
unfolding verdict
verdict_is z o p f = tested (ltb 0 (z + o))
    (λ t. let h : 0 < z + o = ltb-true _ _ t in rw (t, ne_eqb (z + o) 0 (λ e. omega arith), f h))
    (λ t. let h : z + o ≤ 0 = ltb-false _ _ t in rw (t, eq-eqb (z + o) 0 (omega arith)))

module _ (cap : ℕ) (s : List ℕ) (bits : Bits s) (i : ℕ) where
  -- what level l + 1 predicts by the general rules
  abbrev told : ℕ → ℕ
  told l = predicted s (suc l) (level cap s i (suc l)).places i

  own_is : (l : ℕ) → heard cap s l i i ≡ true → own cap (suc l) s i ≡ cond (ltb 0 (both cap s (suc l) i i)) (says (told l)) silent
  unfolding own
  own_is l t =
      let c = count s (suc l) (level cap s i (suc l)).places i in
      let e : key s (suc l) i 0 ≡ context (suc l) s i * 2 = omega arith in
      let z : c 0 ≡ counter cap (suc l) s (context (suc l) s i * 2) i = rw e at ((agrees cap s bits i l).exact i 0 (omega arith) (omega arith) t) in
      let o : c 1 ≡ counter cap (suc l) s (key s (suc l) i 1) i = (agrees cap s bits i l).exact i 1 (omega arith) (omega arith) t in
      rw (e, ← z, ← o) (verdict_is (c 0) (c 1) (told l) (predicted_is s bits (suc l) (level cap s i (suc l)).places i))

  heard_guess : (d : ℕ) → BitLevels.guess cap s i d ≡ cond (heard cap s (suc d) i i) (says (told d)) silent
  unfolding BitLevels.guess heard
  heard_guess zero = own_is 0 refl
  heard_guess (suc d) = tested (heard cap s (suc d) i i)
      (λ t. rw (heard_guess d, t) (own_is (suc d) t))
      (λ t. rw (heard_guess d, t))

  pub guess_same : (d : ℕ) → StoreLevels.guess cap s i d ≡ BitLevels.guess cap s i d
  unfolding StoreLevels.guess
  guess_same d = rw (found_is cap s bits i (agrees cap s bits i) (suc d)) (sym (heard_guess d))

-- so the races end the same
module _ (cap : ℕ) (s : List ℕ) (bits : Bits s) where
  guesses_same : StoreLevels.guess cap s ≡ BitLevels.guess cap s
  guesses_same = λ t i d. guess_same cap s bits i d t

  pub outcome_same : (n : ℕ) → Store.outcome_of n cap s ≡ Bits.outcome_of n cap s
  outcome_same n = ap (λ (g : ℕ → ℕ → Guess). outcome_over n first_place g s) guesses_same

-- and the answer is the same, by the numbers in force
pub estimate_same : (s : List ℕ) → Bits s → store_estimate s 2 ≡ bits_estimate s
unfolding store_estimate bits_estimate
estimate_same s bits = ap (λ (o : Outcome). estimated o s 2) (outcome_same cap s bits levels)

-- a translated capture of at most two values is a list of bits
sorted_bits : (s : List ℕ) → Bytes s → distinct s ≤ 2 → Bits (sorted s)
sorted_bits s bytes few j = tested (ltb j (length s))
    (λ t. omega (arith, sorted_below s bytes j (ltb-true _ _ t)))
    (λ t. rw (get_or-eq_default (sorted s) 0 {n = j} (omega (arith, sorted_length s, ltb-false j (length s) t))) (omega arith))

-- so the literal track answers by the general rules on every capture: running two values by the bit rules changes memory and time alone
pub literal_general : (s : List ℕ) → Bytes s → literal_estimate s ≡ store_estimate (sorted s) (max 2 (distinct s))
unfolding literal_estimate
literal_general s bytes = tested (leb (distinct s) 2)
    (λ t. let few : distinct s ≤ 2 = leb-true _ _ t in
    let e : max 2 (distinct s) ≡ 2 = omega arith in
    rw (t, e) (sym (estimate_same (sorted s) (sorted_bits s bytes few))))
    (λ t. let many : 2 < distinct s = leb-false _ _ t in
    let e : max 2 (distinct s) ≡ distinct s = omega arith in
    rw (t, e))
