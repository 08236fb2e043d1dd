-- The samples of the literal track: what the translator leaves, and that its numbers are below the alphabet's size. Assumes nothing.
use mathlib.Core.Path.{◌≡◌, ap, sym, ◌∙◌}
use mathlib.Core.List.{List}
use Prim.Native.Nat.{ℕ, ◌≤◌, ◌<◌}
use native.Mathlib.Omega.{arith}
use lib.ListN.{length, take, drop, length-map}
use lib.Seq.{take_at}
use borrow.Author.Tests.{le-ltb}
use Rattle.alphabet.specs.Alphabet.{alphabet_of, dense, distinct, first_sight, output_of, written}
use Rattle.capture.specs.Limit.{symbol_limit}
use Rattle.alphabet.specs.declared.Alphabet.{Alphabet}
use Rattle.alphabet.proofs.Alphabets.{Bytes, dense_below}
use Rattle.capture.proofs.Limits.{limit_small}
use Rattle.alphabet.proofs.Distinct.{distinct_le}
use Rattle.mcw_symbols.specs.Inner.Samples.{Samples}

pub dense_length : (s : List ℕ) → length (dense s) ≡ length s
dense_length s = length-map s (first_sight s)

module _ (s : List ℕ) (bytes : Bytes s) where
  pub dense_samples : 0 < length s → length s ≤ symbol_limit → Samples (dense s) (distinct s)
  dense_samples some fits =
      record {
        some = omega (arith, dense_below s bytes 0 some);
        few = distinct_le s;
        short = omega (arith, dense_length s, limit_small);
        below = λ i l. dense_below s bytes i (omega (arith, dense_length s));
      }

  -- what the counting needs of a translated list p
  pub translated_asks : 0 < length s → length s ≤ symbol_limit → {p : List ℕ} {k : ℕ} → p ≡ dense s → k ≡ distinct s → (length p ≤ symbol_limit) × Samples p k
  translated_asks some fits pe ke = rw (pe, ke) (omega (arith, dense_length s), dense_samples some fits)

-- the translator is not refused, since the capture is short enough and the output long enough: it answers a and leaves out₁
pub record Translation (s out : List ℕ) (a : Alphabet) (out₁ : List ℕ) : Type 0 where
  pub fits : length s ≤ symbol_limit
  pub room : length s ≤ length out
  pub answers : a ≡ alphabet_of s out
  pub leaves : out₁ ≡ output_of dense s out

module _ {s out : List ℕ} {a : Alphabet} {out₁ : List ℕ} (T : Translation s out a out₁) where
  pub size_is : a.size ≡ distinct s
  size_is = ap (λ (a : Alphabet). a.size) T.answers ∙ simp (le-ltb _ _ T.fits, le-ltb _ _ T.room)

  pub written_is : out₁ ≡ written (dense s) out
  written_is = T.leaves ∙ simp (le-ltb _ _ T.fits, le-ltb _ _ T.room)

  pub taken_is : take (length s) out₁ ≡ dense s
  taken_is = ap (take (length s)) written_is ∙ take_at (dense s) (drop (length (dense s)) out) (length s) (dense_length s)

  pub taken_length : length s ≡ length (take (length s) out₁)
  taken_length = sym (ap length taken_is ∙ dense_length s)
