use Rattle.mmc_bits.proofs.Seeking.{Quiet}
use Rattle.mmc_bits.proofs.speakers.speakers.Given as goal

abbrev pub invariant-loop-shorter : goal.invariant-loop-shorter
invariant-loop-shorter g l = Quiet g.here.0 g.here.1 l.top l.shorter
