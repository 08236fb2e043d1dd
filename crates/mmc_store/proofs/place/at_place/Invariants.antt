use Rattle.mmc_bits.specs.Levels.{levels, cap}
use Rattle.mmc_store.proofs.Turning.{Turns}
use Rattle.mmc_store.proofs.place.at_place.Given as goal

abbrev pub ghost-count_level : goal.ghost-count_level
ghost-count_level g a = g.here

abbrev pub invariant-loop-l : goal.invariant-loop-l
invariant-loop-l g l =
    Turns levels cap l.s l.place l.top l.l l.carry l.found l.entries l.nodes l.guesses l.space
