-- The translated capture as the estimators are handed it: the first numbers of the output. Assumes nothing.
use mathlib.Core.Path.{◌≡◌, ap, sym, ◌∙◌}
use mathlib.Core.List.{List}
use Prim.Native.Nat.{ℕ, ◌*◌, ◌≤◌}
use native.Mathlib.Omega.{arith}
use borrow.Author.Tests.{le-ltb}
use lib.ListN.{length, take, length-map}
use lib.Seq.{take_at}
use Rattle.alphabet.specs.Alphabet.{alphabet_number, alphabet_of, distinct, output_of, rising, sorted, written}
use Rattle.alphabet.specs.declared.Alphabet.{Alphabet}
use Rattle.alphabet.proofs.Alphabets.{Bytes, sorted_below}
use Rattle.capture.specs.Inner.Sources.{IsSource}
use Rattle.capture.specs.Bits.{bits_of, all_bits}
use Rattle.capture.specs.Limit.{symbol_limit}
use Rattle.capture.proofs.Bitstring.{bits_narrow}

pub sorted_length : (s : List ℕ) → length (sorted s) ≡ length s
sorted_length s = length-map s (rising s)

-- the translator is not refused, since the capture is short enough and the output long enough: it answers a and leaves out₁
pub record Translation (s out : List ℕ) (a : Alphabet) (out₁ : List ℕ) : Type 0 where
  pub fits : length s ≤ symbol_limit
  pub room : length s ≤ length out
  pub answers : a ≡ alphabet_of s out
  pub leaves : out₁ ≡ output_of sorted s out

module _ {s out : List ℕ} {a : Alphabet} {out₁ : List ℕ} (T : Translation s out a out₁) where
  number_is : alphabet_number s out ≡ 0
  number_is = simp (le-ltb _ _ T.fits, le-ltb _ _ T.room)

  pub size_is : a.size ≡ distinct s
  size_is = ap (λ (a : Alphabet). a.size) T.answers ∙ rw number_is

  pub written_is : out₁ ≡ written (sorted s) out
  written_is = T.leaves ∙ rw number_is

  pub taken_is : take (length s) out₁ ≡ sorted s
  taken_is = ap (take (length s)) written_is ∙ take_at (sorted s) _ (length s) (sorted_length s)

  pub taken_length : length s ≡ length (take (length s) out₁)
  taken_length = sym (ap length taken_is ∙ sorted_length s)

  -- of at most two values the numbers are bits
  pub source_is : IsSource (take (length s) out₁) 1
  source_is =
      record {
        short = omega (arith, taken_length, T.fits);
        some = omega arith;
        narrow = omega arith;
      }

  pub bits_are : Bytes s → distinct s ≤ 2 → all_bits (take (length s) out₁) 1 ≡ sorted s
  unfolding all_bits
  bits_are bytes few =
      let one : length (sorted s) * 1 ≡ length (sorted s) = omega arith in
      ap (λ (z : List ℕ). bits_of z 1 (length z * 1)) taken_is
      ∙ ap (bits_of (sorted s) 1) one
      ∙ bits_narrow (sorted s) (λ i l. omega (arith, sorted_below s bytes i (omega (arith, sorted_length s))))

  pub bits_many : Bytes s → distinct s ≤ 2 → length (all_bits (take (length s) out₁) 1) ≡ length s
  bits_many bytes few = ap length (bits_are bytes few) ∙ sorted_length s
