-- A whole place: from what the code holds before it to what it holds after, by way of the levels. Assumes nothing.
use Prim.Native.Nat.{ℕ, suc, ◌+◌, ◌*◌, ◌≤◌, ◌<◌}
use mathlib.Core.Path.{◌≡◌, sym, ap, ◌∙◌}
use mathlib.Core.List.{List, ◌++◌}
use native.Mathlib.Omega.{arith}
use native.Mathlib.Nat.{le_of_lt}
use lib.ListN.{drop}
use lib.Bits.{bit_and, bit_xor}
use Rattle.verdicts.specs.declared.Masks.{Masks}
use Rattle.mmc_bits.specs.Levels.{levels, cap}
use Rattle.mmc_bits.specs.Space.{span, size}
use Rattle.mmc_bits.specs.Inner.Steps.{leanings, Entered, Speaking, Passed, Last, Ended, Before, After}
use Rattle.mmc_bits.proofs.Counting.{distinct_early}
use Rattle.mmc_bits.proofs.Parts.{mixed_few, mixed_own, mixed_rest}
use Rattle.mmc_bits.proofs.Shorter.{followed_late}
use Rattle.mmc_bits.proofs.Masking.{leaning_le, leanings_more, masks_tell}

-- the masks that the code makes of the levels that have more zeros and of those that speak
pub record Judged (zeros speaking bit : ℕ) (masks : Masks) : Type 0 where
  pub rights_are : masks.rights ≡ bit_and (bit_xor zeros (65535 * bit)) speaking
  pub speaking_is : masks.speaking ≡ speaking

module _ {b : List ℕ} {i recent bit stored : ℕ} {counters : List ℕ} (h : Before b i recent bit stored counters) where
  pub enters : (top : ℕ) → top ≤ i → Entered b i recent bit top counters
  enters top l = record { stands = h.stands; taking = l; counted = h.counted }

  -- by other names
  pub enters_here : {i' bit' : ℕ} → i' ≡ i → bit' ≡ bit → (top : ℕ) → top ≤ i → Entered b i' recent bit' top counters
  enters_here p q top l = rw (p, q) (enters top l)

  pub bit_low : bit < 2
  bit_low = omega (arith, h.stands.bit_is, h.stands.bits i)

  -- a place that is too early for the last level: the others that are too long for it have no history
  pub few_after : {counters' : List ℕ} {zeros speaking : ℕ} {masks : Masks} → i < levels → Speaking b i i speaking → Passed b i i counters counters' zeros
      → Judged zeros speaking bit masks → After b i stored masks counters counters'
  few_after {zeros = z} l s p m =
      record {
        stored_is = omega (arith, h.stored_is, distinct_early levels b i (omega arith), distinct_early levels b (suc i) l);
        counted = p.counted ∙ mixed_few cap levels b i (drop (size levels) counters) (le_of_lt l);
        told = masks_tell b i h.stands.bits s (le_of_lt l) (λ j k _. followed_late cap (suc j) b i (omega arith))
            z bit p.zeros_are h.stands.bit_is m.rights_are m.speaking_is;
      }

  -- any other place
  module _ {counters' : List ℕ} {zeros : ℕ} (l : levels ≤ i) (p : Passed b i 15 counters counters' zeros) where
    pub goes_on : Last b i recent bit stored counters'
    goes_on =
        record {
          stands = h.stands;
          long = l;
          stored_is = h.stored_is;
          counted = mixed_own cap levels 15 b i (drop (size levels) counters) counters' (omega arith) p.counted;
        }

    module _ {z m : ℕ} {counters'' : List ℕ} (q : Ended b i z m counters' counters'') where
      pub last_low : z ≤ 1
      last_low = omega (arith, q.zero_is, leaning_le cap levels b i)

      all_zeros : z * 32768 + zeros ≡ leanings cap levels b i
      all_zeros = rw (q.zero_is, p.zeros_are) (sym (leanings_more cap b i 15))

      pub all_after : {speaking : ℕ} {masks : Masks} → Speaking b i levels speaking → Judged (z * 32768 + zeros) speaking bit masks
          → After b i m masks counters counters''
      all_after s j =
          record {
            stored_is = q.stored_is;
            counted = q.counted
                ∙ ap (λ (t : List ℕ). span cap 1 levels b (suc i) ++ t)
                (mixed_rest cap levels 15 b i (drop (size levels) counters) counters' (omega arith) p.counted);
            told = masks_tell b i h.stands.bits s (omega arith) (λ k a c. absurd (omega arith))
                (z * 32768 + zeros) bit all_zeros h.stands.bit_is j.rights_are j.speaking_is;
          }
