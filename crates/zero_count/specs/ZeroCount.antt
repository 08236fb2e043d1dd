-- p_global' where no prediction was right: "with none right it is 1 - 0.01^(1/N). N = 0 gives 1." Definitions only.
-- The N-th root of 0.01 is found by its binary digits: m / 2 ^ i is the largest fraction of i digits whose N-th power, as `power` rounds it, is at most 0.01.
use Rattle.std.specs.Prelude.{ℕ, zero, suc, ◌+◌, ◌-◌, ◌*◌, ◌^◌, ◌≤◌, Bool, false, cond, negsuc, ◌==◌, Float}
use Rattle.std.specs.Float.{fin, binary64}
use Rattle.std.specs.Float.Ieee.{round, le}
use Rattle.rounding.specs.Doubles.{one}
use Rattle.power.specs.Power.{power_of}

-- 0.01 as a double
abbrev pub hundredth : Float
hundredth = fin false 5764607523034235 (negsuc 58)

-- how many binary digits the root has
abbrev pub places : ℕ
places = 52

-- m / 2 ^ i as a double
unfoldable pub fraction : ℕ → ℕ → Float
fraction i m = round binary64 false m (2 ^ i)

-- whether the n-th power of m / 2 ^ i, as `power` rounds it, is at most 0.01
abbrev pub low_enough : ℕ → ℕ → ℕ → Bool
low_enough i n m = le (power_of (fraction i m) n) hundredth

-- the first i digits of the root, as a number: one more is 1 where the power of the fraction that it gives is at most 0.01
unfoldable pub root_digits : ℕ → ℕ → ℕ
unfolding fraction
root_digits zero n = 0
root_digits (suc i) n = let m = root_digits i n * 2 in cond (low_enough (suc i) n (m + 1)) (m + 1) m

-- 1 less the root, which is exact
unfoldable pub zero_count_bound : ℕ → Float
unfolding fraction root_digits
zero_count_bound n = cond (n == 0) one (fraction places (2 ^ places - root_digits places n))

-- How near m / 2 ^ 52 is to the n-th root of 1/100, said by powers, since there are no real numbers here: (q - d) ^ n ≤ 1/100 ≤ (q + d) ^ n,
-- times (2 ^ 52 * 10 ^ 9) ^ n, with d = 10 ^ -9: "p_global' for C = 0: within 1e-9"
pub record WithinBillionth (n m : ℕ) : Type 0 where
  pub not_over : 100 * (m * 10 ^ 9 - 2 ^ places) ^ n ≤ (2 ^ places * 10 ^ 9) ^ n
  pub not_under : (2 ^ places * 10 ^ 9) ^ n ≤ 100 * (m * 10 ^ 9 + 2 ^ places) ^ n
