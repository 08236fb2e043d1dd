-- The pair is counted in its table, and then the best of its context raised in its own, which the first left alone. Assumes nothing.
use Rattle.mmc_store.proofs.Small.{limit_is}
use Rattle.mmc_store.proofs.Parts.{tallies}
use native.Mathlib.Omega.{arith}
use Rattle.mmc_store.proofs.tables.tally.Goals as goal

pub returns : goal.returns
returns c =
    let raised = c.put_in-2 in
    tallies _ _ _ _ _ _ _ _ c.put_in.ensures _ _ c.value_in-old.ensures.0 c.max.ensures raised.ensures

pub overflow_add-n : goal.overflow_add-n
overflow_add-n c = omega (arith, limit_is)

pub put_in-requires : goal.put_in-requires
put_in-requires c = omega (arith, limit_is)

pub overflow_add-n-2 : goal.overflow_add-n-2
overflow_add-n-2 c = omega (arith, limit_is)

pub overflow_mul-n : goal.overflow_mul-n
overflow_mul-n c = omega (arith, limit_is)

pub overflow_add-n-3 : goal.overflow_add-n-3
overflow_add-n-3 c = omega (arith, limit_is)

pub put_in-requires-2 : goal.put_in-requires-2
put_in-requires-2 c = omega (arith, limit_is)
