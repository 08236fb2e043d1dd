-- The digits of the mask of the first k. Assumes nothing.
use mathlib.Core.Path.{◌≡◌}
use Prim.Native.Nat.{ℕ, zero, suc, ◌-◌, ◌*◌, ◌^◌, ◌≤◌, ◌<◌}
use native.Mathlib.Omega.{arith}
use lib.Pow.{pow_pos, pow_mono, ones_lt}
use Rattle.verdicts.specs.Inner.Told.{digit}
use Rattle.verdicts.proofs.Signs.{digit_all}
use Rattle.verdicts.proofs.Tops.{digit_zero, digit_past}

pub digit_ones : (k j : ℕ) → j < k → digit (2 ^ k - 1) j ≡ 1
digit_ones k j h = digit_all k (2 ^ k - 1) (omega (arith, pow_pos k)) j h

pub digit_none : (k j : ℕ) → k ≤ j → digit (2 ^ k - 1) j ≡ 0
digit_none k j h = digit_past (2 ^ k - 1) j (omega (arith, ones_lt k, pow_mono {i = k} {j = j} h))

-- a mask of n digits that are all the bit x
pub digit_same : (n x j : ℕ) → x < 2 → j < n → digit ((2 ^ n - 1) * x) j ≡ x
digit_same n zero j h l = let e : (2 ^ n - 1) * 0 ≡ 0 = omega arith in rw e (digit_zero j)
digit_same n (suc zero) j h l = let e : (2 ^ n - 1) * 1 ≡ 2 ^ n - 1 = omega arith in rw e (digit_ones n j l)
digit_same n (suc (suc x)) j h l = absurd (omega arith)
