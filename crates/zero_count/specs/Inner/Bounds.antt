-- What the search for the root's digits holds on the way, and how near it comes. Definitions only.
use Rattle.std.specs.Prelude.{◌≡◌, ℕ, ◌+◌, ◌-◌, ◌*◌, ◌^◌, ◌<◌, ◌≤◌, true, false, ◌⊎◌}
use Rattle.zero_count.specs.ZeroCount.{places, low_enough}

-- a is low enough, or 0, and b is not, or 2 ^ i: the root's first i digits are a at least, and below b
pub record Encloses (i n a b : ℕ) : Type 0 where
  pub apart : a < b
  pub within : b ≤ 2 ^ i
  pub from : (a ≡ 0) ⊎ (low_enough i n a ≡ true)
  pub to : (b ≡ 2 ^ i) ⊎ (low_enough i n b ≡ false)

-- How near m / 2 ^ 52 is to the n-th root of 1/100, by powers as in `WithinBillionth`: two units of 2 ^ -52 below and three above.
pub record NearRoot (n m : ℕ) : Type 0 where
  pub not_over : 100 * (m - 2) ^ n ≤ (2 ^ places) ^ n
  pub not_under : (2 ^ places) ^ n ≤ 100 * (m + 3) ^ n
