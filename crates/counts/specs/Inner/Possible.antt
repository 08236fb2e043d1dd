-- What is known of counts that are not refused. Definitions only.
use Rattle.std.specs.Prelude.{ℕ, ◌≤◌, ◌<◌}
use Rattle.counts.specs.Counts.{count_limit}

-- c right of n, the longest run, and k symbols
pub record Possible (c n run k : ℕ) : Type 0 where
  pub hits : c ≤ n
  pub run_hits : run ≤ c
  pub some_run : 0 < c → 0 < run
  pub least : 1 ≤ k
  pub most : k ≤ 256
  pub few : n ≤ count_limit
