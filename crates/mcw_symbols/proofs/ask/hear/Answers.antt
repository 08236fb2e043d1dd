-- `ask::hear` meets its contract. A window says x for sure where x is its candidate and not unsure. Assumes nothing.
use mathlib.Core.Path.{refl}
use lib.Dec.{eqb, leb}
use Rattle.lanes.specs.Inner.Lanes.{lane}
use Rattle.mcw_symbols.proofs.Asking.{right_marks}
use Rattle.mcw_symbols.proofs.ask.hear.Goals as goal

pub returns : goal.returns
returns c =
    let z = c.args in
    record {
      same_candidates = refl;
      alike_is = c.same-alike.ensures;
      right_is = λ t T j l.
          right_marks c.same-alike.result c.at_least-unsure.result z.taking j
          (eqb (lane z.x j) (lane z.c.symbols j)) (leb (lane z.c.keys j) (lane z.c.bounds j)) (t j)
          (c.same-alike.ensures j l) (c.at_least-unsure.ensures j l) (T j l);
    }
