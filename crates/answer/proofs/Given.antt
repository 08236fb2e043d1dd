-- The numbers that a result can have are few: each fits a byte. Assumes nothing.
use mathlib.Core.Path.{◌≡◌, refl}
use mathlib.Core.Bool.{Bool, true, false, ◌||◌}
use Prim.Native.Nat.{ℕ, ◌<◌}
use native.Mathlib.Omega.{arith}
use lib.Dec.{leb, eqb}
use borrow.Author.Tests.{leb-true, eqb-true}
use Rattle.answer.specs.Numbers.{bad_state, bad_width, given}

pub given_small : (n : ℕ) → given n ≡ true → n < 256
unfolding given
given_small n = go (leb n bad_width) refl
  where
    go : (b : Bool) → leb n bad_width ≡ b → (b || eqb n bad_state) ≡ true → n < 256
    go true e h = omega (arith, leb-true n bad_width e)
    go false e h = omega (arith, eqb-true n bad_state h)
