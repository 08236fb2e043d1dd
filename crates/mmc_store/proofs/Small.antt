-- Small numbers fit a word, and the measure of a loop that counts up falls. Each is cited where a proof has much in scope. Assumes nothing.
use Prim.Native.Nat.{ℕ, ◌+◌, ◌-◌, ◌≤◌, ◌<◌}
use mathlib.Core.Path.{◌≡◌, refl}
use native.Mathlib.Omega.{arith}
use mir.Val.{Fits}
use mir.Syntax.{w8, w16, w64}
use Rattle.capture.specs.Limit.{symbol_limit}

pub limit_is : symbol_limit ≡ 16777216
unfolding symbol_limit
limit_is = refl

pub fits_limit : (n : ℕ) → n ≤ symbol_limit → n ≤ 4294967296
fits_limit n l = omega (arith, limit_is)

pub byte : {n : ℕ} → Fits w8 n → n < 256
byte f = omega arith

pub fits_byte : (n : ℕ) → n < 256 → Fits w64 n
fits_byte n h = omega arith

pub fits_symbol : (n : ℕ) → n < 256 → Fits w16 n
fits_symbol n h = omega arith

pub fits_next : (i n : ℕ) → i < n → n ≤ 4294967296 → Fits w64 (i + 1)
fits_next i n h l = omega arith

pub falls : (i n : ℕ) → i < n → n - (i + 1) < n - i
falls i n h = omega arith

pub below : (l top n : ℕ) → l < top → top ≤ n → l < n
below l top n h k = omega arith
