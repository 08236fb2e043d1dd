-- `renumber::renumber_each` meets its contract. Assumes nothing.
use native.Mathlib.Omega.{arith}
use Rattle.alphabet.specs.Alphabet.{rising}
use Rattle.renumber.proofs.Translating.{one_more}
use Rattle.renumber.proofs.renumber_each.Goals as goal

pub loop-i-preserved : goal.loop-i-preserved
loop-i-preserved c =
    one_more (rising c.args.ranking.now) c.args.symbols.now c.loop-i.out (omega arith) c.loop-i.i c.loop-i-test.true c.number.ensures c.loop-i.invariant
