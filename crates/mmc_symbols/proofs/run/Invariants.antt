use Rattle.mmc_bits.specs.Levels.{levels, cap}
use Rattle.mmc_symbols.proofs.Running.{Run}
use Rattle.mmc_symbols.proofs.run.Given as goal

abbrev pub ghost-at_place : goal.ghost-at_place
ghost-at_place a = (a.s.now, a.place)

abbrev pub invariant-loop-place : goal.invariant-loop-place
invariant-loop-place l =
    Run levels cap l.s l.store l.entries l.nodes l.race l.place
