-- The samples of the bitstring track: as many as the count, each bit i, each 0 or 1. Assumes nothing.
use mathlib.Core.Path.{◌≡◌, refl, ap, sym, ◌∙◌}
use mathlib.Core.List.{List, [], ◌∷◌, ◌++◌}
use mathlib.Core.Logic.{⊎_elim}
use Prim.Native.Nat.{ℕ, zero, suc, ◌≤◌, ◌<◌}
use native.Mathlib.Nat.{eq-or-lt_of_le, le_of_suc-le-suc, div-one, mod-one, mod-lt, mod-eq_of_lt}
use native.Mathlib.Omega.{arith}
use lib.ListN.{length, get_or, length-append, get_or-append}
use lib.Seq.{ext_get_or, get_or_at}
use Rattle.capture.specs.Bits.{bit_at, bits_of, table}

pub table_length : (n : ℕ) (f : ℕ → ℕ) → length (table n f) ≡ n
unfolding table
table_length zero f = refl
table_length (suc n) f = length-append (table n f) (f n ∷ []) ∙ omega (arith, table_length n f)

table_last : (n : ℕ) (f : ℕ → ℕ) (i : ℕ) → i ≡ n → get_or (table n f ++ (f n ∷ [])) i 0 ≡ f i
table_last n f i e = get_or_at (table n f) (f n) [] 0 i (table_length n f ∙ sym e) ∙ ap f (sym e)

table_before : (n : ℕ) (f : ℕ → ℕ) (i : ℕ) → i < n → get_or (table n f) i 0 ≡ f i → get_or (table n f ++ (f n ∷ [])) i 0 ≡ f i
table_before n f i l e = get_or-append (table n f) (f n ∷ []) 0 i (omega (arith, table_length n f)) ∙ e

pub table_at : (n : ℕ) (f : ℕ → ℕ) (i : ℕ) → i < n → get_or (table n f) i 0 ≡ f i
unfolding table
table_at zero f i h = omega arith
table_at (suc n) f i h =
    ⊎_elim (table_last n f i) (λ l. table_before n f i l (table_at n f i l)) (eq-or-lt_of_le (le_of_suc-le-suc h))

module _ (symbols : List ℕ) (width : ℕ) where
  pub bits_length : (count : ℕ) → length (bits_of symbols width count) ≡ count
  unfolding bits_of
  bits_length count = table_length count (bit_at symbols width)

  pub bits_at : (count i : ℕ) → i < count → get_or (bits_of symbols width count) i 0 ≡ bit_at symbols width i
  unfolding bits_of
  bits_at count i h = table_at count (bit_at symbols width) i h

  pub bit_small : (i : ℕ) → bit_at symbols width i < 2
  unfolding bit_at
  bit_small i = mod-lt _ (omega arith)

-- at width 1 a symbol of at most 1 is the bit as it is
pub bit_narrow : (symbols : List ℕ) (i : ℕ) → get_or symbols i 0 ≤ 1 → bit_at symbols 1 i ≡ get_or symbols i 0
unfolding bit_at
bit_narrow symbols i h = rw (div-one i, mod-one i, div-one (get_or symbols i 0)) (mod-eq_of_lt (omega arith))

-- a list of bits is its own bitstring at width 1
pub bits_narrow : (s : List ℕ) → ((i : ℕ) → i < length s → get_or s i 0 ≤ 1) → bits_of s 1 (length s) ≡ s
bits_narrow s h =
    ext_get_or 0 (bits_of s 1 (length s)) s (bits_length s 1 (length s))
    (λ i l.
    let k : i < length s = rw (bits_length s 1 (length s)) at l in
    bits_at s 1 (length s) i k ∙ bit_narrow s i (h i k))
