-- The windows' marks told as masks. Definitions only.
use Rattle.std.specs.Prelude.{◌≡◌, Bool, cond, ℕ, ◌<◌}
use Rattle.lanes.specs.Inner.Lanes.{lane, marked}
use Rattle.verdicts.specs.Inner.Told.{digit}
use Rattle.verdicts.specs.declared.Masks.{Masks}
use Rattle.mcw_symbols.specs.Inner.Ask.{part_at}

-- digit j is 1 where lane j has a mark
pub record Gathers (marks r : ℕ) : Type 0 where
  pub few : r < 16
  pub each : (j : ℕ) → j < 4 → (t : Bool) → lane marks j ≡ marked t → digit r j ≡ cond t 1 0

-- the windows of `right` were right at place i, and those that take part spoke
pub record Tells (right i : ℕ) (r : Masks) : Type 0 where
  pub rights_are : Gathers right r.rights
  pub spoken : (j : ℕ) → j < 4 → digit r.speaking j ≡ cond (part_at i j) 1 0
