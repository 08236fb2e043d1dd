-- The numbers that are lent are those of table t: the entry is found or made there, and every other table stays. Assumes nothing.
use mathlib.Core.Path.{sym, ap, ◌∙◌}
use Rattle.table.specs.Inner.Table.{entry_of}
use Rattle.mmc_store.specs.Inner.Places.{tables_most}
use Rattle.mmc_store.proofs.Parts.{lent_is, back}
use Rattle.mmc_store.proofs.tables.make_in.Goals as goal

pub make-requires : goal.make-requires
make-requires c =
    rw (lent_is c.args.t c.args.space.now) (c.requires.1, c.requires.2)

pub returns : goal.returns
returns c = let make = c.make in
    let new = rw (lent_is c.args.t c.args.space.now) at make.ensures.0 in
    let changed = back tables_most c.args.t c.args.space.now make.new.m c.requires.0 c.told-space make.auto.m _ new in
    record { changed = changed; value = make.ensures.1 ∙ ap (λ w. entry_of w c.args.key) (new ∙ sym changed.here) }
