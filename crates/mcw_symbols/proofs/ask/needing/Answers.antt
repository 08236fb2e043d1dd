-- `ask::needing` meets its contract. The marks of each test are put together lane by lane. Assumes nothing.
use lib.Dec.{eqb, leb}
use Rattle.lanes.specs.Inner.Lanes.{lane}
use Rattle.mcw_symbols.proofs.Asking.{need_marks}
use Rattle.mcw_symbols.proofs.ask.needing.Goals as goal

pub returns : goal.returns
returns c = λ t T j l. let z = c.args in
    need_marks c.at_least.result c.same.result c.at_least-2.result z.taking j
    (leb (lane z.c.keys j) (lane z.n j)) (eqb (lane z.x j) (lane z.c.symbols j)) (leb (lane z.c.keys j) (lane z.c.bounds j)) (t j)
    (c.at_least.ensures j l) (c.same.ensures j l) (c.at_least-2.ensures j l) (T j l)
