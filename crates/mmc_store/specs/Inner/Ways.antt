-- How many pairs a level has made. Definitions only.
use Rattle.std.specs.Prelude.{ℕ, ◌+◌, ◌-◌, ◌≤◌, ◌<◌, List}
use Rattle.mmc_store.specs.Levels.{level}

-- n pairs of level L before place i, of the levels below N. Besides the pairs that are entries there are ways without a count: each pair is made
-- where every level from L on that is below its cap makes an entry, but for those that do not take part yet
pub record Few (N cap : ℕ) (s : List ℕ) (i L n : ℕ) : Type 0 where
  pub places : n ≤ i - L
  pub ways : (K : ℕ) → L ≤ K → K < N → (level cap s i K).entries < cap → n ≤ (level cap s i K).entries + (K - L)
