-- At width 1 the bits of symbols that are 0 or 1 are the symbols: a translated capture of two values is its own bitstring. Assumes nothing.
use Prim.Native.Nat.{ℕ, ◌≤◌, ◌<◌}
use mathlib.Core.Path.{◌≡◌, sym, ◌∙◌}
use mathlib.Core.List.{List}
use native.Mathlib.Omega.{arith}
use lib.ListN.{get_or, length, take}
use lib.Seq.{ext_get_or, length-take-le, get_or-take}
use Rattle.capture.specs.Bits.{bits_of}
use Rattle.capture.proofs.Bitstring.{bits_length, bits_at, bit_narrow}

pub narrow_bits : (s : List ℕ) (n : ℕ) → n ≤ length s → ((j : ℕ) → j < n → get_or s j 0 ≤ 1) → bits_of s 1 n ≡ take n s
narrow_bits s n h f = ext_get_or 0 (bits_of s 1 n) (take n s)
    (bits_length s 1 n ∙ sym (length-take-le n s h))
    (λ j l. let m : j < n = omega (arith, bits_length s 1 n) in
    bits_at s 1 n j m ∙ bit_narrow s j (f j m) ∙ sym (get_or-take n s j 0 m))
