-- What the code holds of the four windows before a place. Definitions only.
use Rattle.std.specs.Prelude.{List, ℕ, ◌≤◌, ◌<◌}
use Rattle.lanes.specs.Inner.Lanes.{lane}
use Rattle.mcw_bits.specs.Mcw.{size}
use Rattle.mcw_symbols.specs.Inner.Samples.{counts_at, latest_at}
use Rattle.mcw_symbols.specs.Inner.Candidate.{Candidate}
use Rattle.mcw_symbols.specs.Inner.Search.{most}
use Rattle.mcw_symbols.specs.Inner.Windows.{Counted, Seen, starts}
use Rattle.mcw_symbols.specs.declared.Candidates.{Candidates}

-- each window has its candidate
pub record Nominated (s : List ℕ) (k i : ℕ) (c : Candidates) : Type 0 where
  pub each : (j : ℕ) → j < 4 → Candidate (counts_at s i (size j)) (latest_at s i) k (lane c.symbols j) (lane c.keys j) (lane c.bounds j)
  pub small : (j : ℕ) → j < 4 → lane c.bounds j ≤ most

-- the counts, the latest places and the candidates before place i
pub record Kept (s : List ℕ) (k i : ℕ) (cnt latest : List ℕ) (c : Candidates) : Type 0 where
  pub counted : Counted s (starts i) i cnt
  pub seen : Seen s i latest
  pub nominated : Nominated s k i c
