use Rattle.verdicts.specs.Inner.Racing.{raced_in}
use Rattle.mmc_run.proofs.Running.{Running}
use Rattle.mmc_run.proofs.run.Given as goal

abbrev pub ghost-place : goal.ghost-place
ghost-place g a = (g.bits, a.i, a.bit)

abbrev pub invariant-loop-i : goal.invariant-loop-i
invariant-loop-i g l = let left = l.i-iterator in Running g.bits left.count left.iter l.recent l.stored l.counters (raced_in 16 l.race)
