-- `dense::number_by_sight` meets its contract. The table holds the numbers of the values seen so far, and the output their
-- translation. Assumes nothing.
use mathlib.Core.Path.{refl, ◌∙◌}
use native.Mathlib.Omega.{arith}
use lib.ListN.{length-set}
use Rattle.alphabet.specs.Alphabet.{first_sight}
use Rattle.alphabet.proofs.Tables.{symbol_at}
use Rattle.alphabet.proofs.Writing.{goes_out, partly_end}
use Rattle.dense.proofs.Sights.{entered_start, entered_all, entered_le, sighted}
use Rattle.dense.proofs.number_by_sight.Goals as goal

pub loop-i-init : goal.loop-i-init
loop-i-init c = (refl, entered_start, refl)

pub enter-next-requires : goal.enter-next-requires
enter-next-requires c = (omega (arith, c.from-x.ensures, c.type_inv.symbols c.loop-i.i), entered_le c.loop-i.invariant.1)

pub bounds-numbers-x : goal.bounds-numbers-x
bounds-numbers-x c = omega (arith, c.from-x.ensures, c.type_inv.symbols c.loop-i.i)

pub overflow_cast-out : goal.overflow_cast-out
overflow_cast-out c =
    let here = symbol_at c.loop-i-test.true c.from-x.ensures (omega (arith, c.from-x.ensures, c.type_inv.symbols c.loop-i.i)) in
    let seen = sighted here c.loop-i.invariant.1 c.enter-next.ensures.0 c.enter-next.ensures.1 in
    record { fits = seen.small }

pub loop-i-preserved : goal.loop-i-preserved
loop-i-preserved c =
    let s = c.args.symbols.now in
    let here = symbol_at c.loop-i-test.true c.from-x.ensures (omega (arith, c.from-x.ensures, c.type_inv.symbols c.loop-i.i)) in
    let seen = sighted here c.loop-i.invariant.1 c.enter-next.ensures.0 c.enter-next.ensures.1 in (
      simp length-set c.loop-i.invariant.0,
      seen.entered,
      goes_out (first_sight s) s c.args.out.now c.loop-i.i refl c.loop-i-test.true c.requires seen.number c.loop-i.invariant.2,
    )

pub shape_of-out : goal.shape_of-out
shape_of-out c = c.loop-i.invariant.0

pub returns : goal.returns
returns c =
    let s = c.args.symbols.now in (
      c.from.ensures ∙ entered_all s c.loop-i.i c.loop-i-test.false c.loop-i.invariant.1,
      c.loop-i.invariant.2 ∙ partly_end (first_sight s) s c.args.out.now c.loop-i.i c.loop-i-test.false c.loop-i.auto.i-end,
    )
