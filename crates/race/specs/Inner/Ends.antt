-- What is counted over a race. Definitions only.
use Rattle.std.specs.Prelude.{List, [], ◌∷◌, ℕ}
use Rattle.race.specs.Race.{Event, verdict_of, run_of, hits, longest}
use Rattle.race.specs.declared.Tally.{Tally}

-- the run that the events leave of a run of r: the hits since the last miss
unfoldable pub run_after : ℕ → List Event → ℕ
run_after r [] = r
run_after r (e ∷ es) = run_after (run_of (verdict_of e) r) es

-- C, the hits since the last miss, and the longest run
abbrev pub tally_of : List Event → Tally
tally_of es = record { hits = hits es; run = run_after 0 es; longest = longest es }
