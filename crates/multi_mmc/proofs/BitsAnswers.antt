-- What the bitstring track answers and leaves in its counters, by the number it is refused with. Assumes nothing.
use mathlib.Core.Path.{◌≡◌, ap, sym, ◌∙◌}
use mathlib.Core.Bool.{true, false}
use mathlib.Core.List.{List}
use Prim.Native.Nat.{ℕ, ◌*◌}
use borrow.Author.Tests.{eq-eqb, ne_eqb}
use lib.Dec.{eqb}
use lib.ListN.{length}
use Rattle.answer.specs.Numbers.{done}
use Rattle.answer.specs.declared.Answer.{Answer}
use Rattle.capture.specs.Bits.{bits_of}
use Rattle.capture.specs.Refusals.{refused_on}
use Rattle.mmc_bits.specs.Levels.{levels, cap}
use Rattle.mmc_bits.specs.Space.{final}
use Rattle.multi_mmc.specs.Tracks.{bits_estimate, bits_number, mmc_bits, mmc_bits_space}

module _ (s : List ℕ) (w : ℕ) (space : List ℕ) {n : ℕ} (e : n ≡ bits_number s w space) where
  pub bits_refused : (n ≡ 0 → ⊥) → {r : Answer} → r ≡ refused_on s n → (r ≡ mmc_bits s w space) × (space ≡ mmc_bits_space s w space)
  unfolding mmc_bits mmc_bits_space
  bits_refused d p =
      let f : eqb (bits_number s w space) done ≡ false = ne_eqb (bits_number s w space) 0 (λ q. d (e ∙ q)) in
      (rw f (p ∙ ap (refused_on s) e), rw f)

  pub bits_ran : n ≡ 0 → {r : Answer} {space' : List ℕ} → r ≡ bits_estimate (bits_of s w (length s * w))
      → space' ≡ final levels cap (bits_of s w (length s * w)) space → (r ≡ mmc_bits s w space) × (space' ≡ mmc_bits_space s w space)
  unfolding mmc_bits mmc_bits_space
  bits_ran z p q =
      let f : eqb (bits_number s w space) done ≡ true = eq-eqb (bits_number s w space) 0 (sym e ∙ z) in
      (rw f p, rw f q)
