-- The numbers that are lent are those of table t: its value is put there, and every other table stays. Assumes nothing.
use Rattle.mmc_store.specs.Inner.Places.{tables_most}
use Rattle.mmc_store.proofs.Parts.{lent_is, back}
use Rattle.mmc_store.proofs.tables.put_in.Goals as goal

pub returns : goal.returns
returns c =
    let put = c.put in
    back tables_most c.args.t c.args.space.now put.new.m c.requires.0 c.told-space put.auto.m _
    (rw (lent_is c.args.t c.args.space.now) at put.ensures)
