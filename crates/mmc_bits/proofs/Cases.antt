-- The cases of the definitions, one law for each. Assumes nothing.
use Prim.Native.Nat.{ℕ, ◌+◌, ◌≤◌, ◌<◌}
use mathlib.Core.Path.{◌≡◌, refl}
use mathlib.Core.Bool.{Bool, true, false, cond}
use native.Mathlib.Omega.{arith}
use lib.Dec.{ltb}
use mir.Val.{bool_byte}
use Rattle.std.specs.Prelude.{nat_lt}
use borrow.Author.Tests.{lt-ltb, le-ltb, eq-eqb, ne_eqb}
use Rattle.race.specs.Race.{silent, says}
use Rattle.capture.specs.Bits.{one}
use Rattle.mmc_bits.specs.Guesses.{verdict}
use Rattle.mmc_bits.specs.Inner.Steps.{lean, bumped, kept}

pub one_le : (t : Bool) → one t ≤ 1
one_le true = omega arith
one_le false = omega arith

module _ (z o : ℕ) where
  -- as the code makes it
  pub lean_byte : bool_byte (nat_lt o z) ≡ lean z o
  unfolding lean
  lean_byte = digit (ltb o z)
    where
      digit : (t : Bool) → bool_byte t ≡ one t
      digit true = refl
      digit false = refl

  pub lean_le : lean z o ≤ 1
  unfolding lean
  lean_le = one_le (ltb o z)

  pub verdict_none : z + o ≡ 0 → verdict z o ≡ silent
  unfolding verdict
  verdict_none e = rw (eq-eqb (z + o) 0 e) refl

  pub verdict_some : 0 < z + o → verdict z o ≡ says (cond (ltb o z) 0 1)
  unfolding verdict
  verdict_some l = rw (ne_eqb (z + o) 0 (λ e. omega arith)) refl

module _ (cap m n : ℕ) where
  pub bumped_first : m ≡ 0 → n < cap → 1 ≡ bumped cap m n
  unfolding bumped
  bumped_first a b = rw (eq-eqb m 0 a, lt-ltb n cap b) refl

  pub bumped_full : m ≡ 0 → cap ≤ n → m ≡ bumped cap m n
  unfolding bumped
  bumped_full a b = rw (eq-eqb m 0 a, le-ltb n cap b) a

  pub bumped-again : (m ≡ 0 → ⊥) → m + 1 ≡ bumped cap m n
  unfolding bumped
  bumped-again a = rw (ne_eqb m 0 a) refl

  pub kept_first : m ≡ 0 → n < cap → n + 1 ≡ kept cap m n
  unfolding kept
  kept_first a b = rw (eq-eqb m 0 a, lt-ltb n cap b) refl

  pub kept_full : m ≡ 0 → cap ≤ n → n ≡ kept cap m n
  unfolding kept
  kept_full a b = rw (eq-eqb m 0 a, le-ltb n cap b) refl

  pub kept_again : (m ≡ 0 → ⊥) → n ≡ kept cap m n
  unfolding kept
  kept_again a = rw (ne_eqb m 0 a) refl
