-- `marks::seen::see_each` meets its contract. The values of the symbols passed are marked, and no others beside those before. Assumes nothing.
use mathlib.Core.Path.{subst, sym}
use mathlib.Core.Bool.{true}
use mathlib.Core.List.{List}
use native.Mathlib.Omega.{arith}
use lib.ListN.{set}
use Rattle.alphabet.proofs.Tables.{symbol_at, take_next}
use Rattle.marks.specs.Inner.Seen.{Sees}
use Rattle.marks.proofs.Seeing.{sees_none, sees_one, sees_more}
use Rattle.marks.proofs.seen.see_each.Goals as goal

pub loop-symbol-init : goal.loop-symbol-init
loop-symbol-init c = sees_none c.args.seen.now

pub loop-symbol-preserved : goal.loop-symbol-preserved
loop-symbol-preserved c =
    let here = symbol_at c.loop-symbol-test.true c.from.ensures (omega (arith, c.from.ensures, c.type_inv.symbols c.loop-symbol.symbol-index)) in
    subst (λ (t : List _). Sees c.args.seen.now t (set c.loop-symbol.seen c.from.result true)) (sym (take_next here))
    (sees_more c.loop-symbol.invariant (sees_one c.loop-symbol.seen c.from.result (omega arith)))
