-- Where a bit stands: its byte, by a division. Assumes nothing.
use mathlib.Core.Path.{◌≡◌, ap}
use mathlib.Core.List.{List}
use Prim.Native.Nat.{ℕ, ◌+◌, ◌*◌, ◌/◌, ◌%◌, ◌<◌}
use native.Mathlib.Nat.{div-eq_of_lt-le, mod-eq-sub-div-mul, div-lt_iff_lt-mul}
use native.Mathlib.Omega.{arith}
use lib.ListN.{length}

-- a number is its quotient and remainder in one way
pub quotient_is : (w q r : ℕ) {i : ℕ} → r < w → i ≡ q * w + r → i / w ≡ q
quotient_is w q r {i} h e = div-eq_of_lt-le w (omega arith) (omega arith)

pub remainder_is : (w q r : ℕ) {i : ℕ} → r < w → i ≡ q * w + r → i % w ≡ r
remainder_is w q r {i} h e =
    let z : i / w * w ≡ q * w = ap (λ (n : ℕ). n * w) (quotient_is w q r h e) in
    omega (arith, mod-eq-sub-div-mul i w)

-- the byte of a bit
pub spot_inside : (w i : ℕ) → 0 < w → (s : List ℕ) → i < length s * w → i / w < length s
spot_inside w i some s g = (div-lt_iff_lt-mul some).1 g
