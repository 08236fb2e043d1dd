-- An order of refusals, test by test: the number of the first test that holds, and 0 where none does. Stated of one test, so that an order is proved by
-- citing them in turn. Assumes nothing.
use mathlib.Core.Path.{◌≡◌, refl}
use mathlib.Core.Bool.{Bool, true, false, cond}
use Prim.Native.Nat.{ℕ}
use native.Mathlib.Omega.{arith}
use lib.Dec.{T, ltb, ltb→lt}

-- nothing is refused: the test does not hold, and neither does any after it
pub passed : (b : Bool) (number rest : ℕ) → T (ltb 0 number) → cond b number rest ≡ 0 → (b ≡ false) × (rest ≡ 0)
passed true number rest t h = absurd (omega (arith, ltb→lt 0 number t))
passed false number rest t h = (refl, h)

-- what holds of the test's number, and of what comes after it, holds of the order
pub first_of : (P : ℕ → Type 0) {number rest : ℕ} → P number → (b : Bool) → (b ≡ false → P rest) → P (cond b number rest)
first_of P p true h = p
first_of P p false h = h refl
