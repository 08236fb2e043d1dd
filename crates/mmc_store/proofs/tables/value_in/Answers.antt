-- The numbers that are lent are those of table t, so its value is read. Assumes nothing.
use Rattle.mmc_store.proofs.Parts.{lent_is}
use Rattle.mmc_store.proofs.tables.value_in.Goals as goal

pub returns : goal.returns
returns c =
    rw (lent_is c.args.t c.args.space.now) at c.value.ensures
