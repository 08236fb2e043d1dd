-- `marks::Ranking::of` meets its contract. Each value passed has its number, and the next one's is how many were seen. Assumes nothing.
use mathlib.Core.Path.{◌≡◌, refl, sym}
use lib.ListN.{length-set}
use Prim.Native.Nat.{◌+◌}
use native.Mathlib.Omega.{arith}
use Rattle.marks.proofs.Ranks.{rising_none, rising_le, rising_next, ranked_next, ranks}
use Rattle.marks.proofs.ranking.Ranking.of.Goals as goal

pub loop-value-init : goal.loop-value-init
loop-value-init c = (refl, sym (rising_none c.args.symbols.now), λ v l. omega arith)

pub overflow_cast-ranking : goal.overflow_cast-ranking
overflow_cast-ranking c = record { fits = omega (arith, c.loop-value.invariant.1, rising_le c.args.symbols.now c.loop-value.value) }

pub overflow_add-ranking : goal.overflow_add-ranking
overflow_add-ranking c =
    let next = rising_next c.seen_in.ensures c.loop-value.value c.loop-value-test.true c.from.ensures in
    omega (arith, next, c.loop-value.invariant.1, rising_le c.args.symbols.now (c.loop-value.value + 1))

pub loop-value-preserved : goal.loop-value-preserved
loop-value-preserved c =
    let next = rising_next c.seen_in.ensures c.loop-value.value c.loop-value-test.true c.from.ensures in
    (simp length-set c.loop-value.invariant.0, omega (arith, next, c.loop-value.invariant.1), ranked_next c.args.symbols.now c.loop-value.ranking-inside.numbers c.loop-value.value (omega arith) c.loop-value.invariant.2 c.loop-value.invariant.1)

pub invariant_of-ranking : goal.invariant_of-ranking
invariant_of-ranking c =
    let all : c.loop-value.value ≡ 256 = omega arith in
    ranks all (c.loop-value.invariant.0) c.loop-value.invariant.1 c.loop-value.invariant.2
