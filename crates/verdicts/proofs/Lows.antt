-- The low digits of a deficit are a number of as many digits as there are planes. Assumes nothing.
use mathlib.Core.Path.{◌≡◌, refl}
use mathlib.Core.List.{List, [], ◌∷◌}
use Prim.Native.Nat.{ℕ, zero, suc, ◌^◌, ◌<◌}
use native.Mathlib.Omega.{arith}
use native.Mathlib.Nat.{pow-suc}
use lib.ListN.{length, replicate}
use Rattle.verdicts.specs.Inner.Planes.{low_at}
use Rattle.verdicts.proofs.Digits.{digit_le}
use Rattle.verdicts.proofs.Tops.{digit_zero}

pub low_lt : (ps : List ℕ) (j : ℕ) → low_at ps j < 2 ^ length ps
unfolding low_at
low_lt [] j = omega arith
low_lt (p ∷ ps) j = rw (pow-suc 2 (length ps)) (omega (arith, low_lt ps j, digit_le p j))

pub low_none : (n j : ℕ) → low_at (replicate n 0) j ≡ 0
unfolding low_at
low_none zero j = refl
low_none (suc n) j = omega (arith, digit_zero j, low_none n j)
