-- `estimate::store_estimate` meets its contract: the answer is that of the race over the samples, and the first numbers are lent to it. Assumes nothing.
use Rattle.mmc_store.specs.Space.{size}
use Rattle.multi_mmc.proofs.Estimates.{store_estimate_is, space_final}
use Rattle.multi_mmc.proofs.estimate.store_estimate.Goals as goal

pub unwrap-requires : goal.unwrap-requires
unfolding size
unwrap-requires c = c.first_chunk_mut.ensures.variant.1 c.requires.2

pub returns : goal.returns
returns c =
    let a = c.args in
    record {
      value = store_estimate_is a.samples.now a.k c.mmc_symbols-outcome.ensures.value c.rate.ensures;
      space_after = space_final a.space.now c.mmc_symbols-outcome.ensures.space_after;
    }
