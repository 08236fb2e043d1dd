-- `ask::ask` meets its contract. The windows that need it are searched, none where none needs it, and then each tells what it says for sure.
-- Assumes nothing.
use native.Mathlib.Omega.{arith}
use Rattle.mcw_symbols.proofs.Asking.{counts_low, searched_low, asks_searched, none_searched}
use Rattle.mcw_symbols.proofs.ask.ask.Goals as goal

pub offset_bounds-cnt-x : goal.offset_bounds-cnt-x
offset_bounds-cnt-x c = omega (arith, c.requires.searchable.within, c.requires.searchable.few)

pub bounds-cnt-x : goal.bounds-cnt-x
bounds-cnt-x c = omega (arith, c.requires.searchable.within, c.requires.searchable.few)

pub needing-need-requires : goal.needing-need-requires
needing-need-requires c = let z = c.requires in (z.low, (z.xs_low, counts_low z.searchable))

pub hear-requires : goal.hear-requires
hear-requires c = let z = c.requires in (z.low, z.xs_low)

pub returns-then-need-eq0 : goal.returns-then-need-eq0
returns-then-need-eq0 c =
    asks_searched c.hear.ensures c.needing-need.ensures (none_searched _ c.if-need-eq0.true)

pub search-found-requires : goal.search-found-requires
search-found-requires c = c.requires.searchable

pub hear-requires-2 : goal.hear-requires-2
hear-requires-2 c = let z = c.requires in (searched_low z.searchable z.low c.search-found.ensures, z.xs_low)

pub returns : goal.returns
returns c =
    asks_searched c.hear-2.ensures c.needing-need.ensures c.search-found.ensures
