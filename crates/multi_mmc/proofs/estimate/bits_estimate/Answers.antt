-- `estimate::bits_estimate` meets its contract: the answer is that of the race over the bits, and the first counters are lent to it. Assumes nothing.
use Rattle.mmc_bits.specs.Space.{size}
use Rattle.multi_mmc.proofs.Estimates.{bits_estimate_is, counters_final}
use Rattle.multi_mmc.proofs.estimate.bits_estimate.Goals as goal

pub unwrap-requires : goal.unwrap-requires
unfolding size
unwrap-requires c = c.first_chunk_mut.ensures.variant.1 c.requires.1

pub returns-clause-value : goal.returns-clause-value
returns-clause-value c = bits_estimate_is c.args.source c.len-n.ensures c.mmc_bits-outcome.ensures.value c.rate.ensures

pub returns-clause-counters_after : goal.returns-clause-counters_after
returns-clause-counters_after c = counters_final c.args.source c.args.counters.now c.mmc_bits-outcome.ensures.counters_after
