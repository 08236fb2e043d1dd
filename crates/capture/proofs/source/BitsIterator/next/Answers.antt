-- `Bits::next` meets its contract. What is left of the bits is the bit at the spot, and then what is left from the next spot on. Assumes nothing.
use mathlib.Core.Path.{sym, ap, ◌∙◌}
use native.Mathlib.Omega.{arith}
use lib.ListN.{length}
use Rattle.capture.proofs.Sources.{walk_ends, walk_last, walk_inner}
use Rattle.capture.proofs.source.BitsIterator.next.Goals as goal

pub returns-then-self-clause-steps : goal.returns-then-self-clause-steps
returns-then-self-clause-steps c =
    let e = sym c.self.view_is ∙ walk_ends _ _ _ _ c.if-self.true in (e, e)

pub returns-then-self-eq0-clause-steps : goal.returns-then-self-eq0-clause-steps
returns-then-self-eq0-clause-steps c =
    sym c.self.view_is ∙ walk_last c.self.invariant c.if-self.false c.if-self-eq0.true

pub returns-then-self-eq0-clause-goes : goal.returns-then-self-eq0-clause-goes
returns-then-self-eq0-clause-goes c =
    let e = ap length (sym c.self.view_is ∙ walk_last c.self.invariant c.if-self.false c.if-self-eq0.true) in
    record { on = λ _. (tt, tt, omega arith); keeps = tt; rests = λ _. tt }

pub returns-else-self-eq0-clause-steps : goal.returns-else-self-eq0-clause-steps
returns-else-self-eq0-clause-steps c =
    sym c.self.view_is ∙ walk_inner c.self.invariant c.if-self.false (omega arith)

pub returns-else-self-eq0-clause-goes : goal.returns-else-self-eq0-clause-goes
returns-else-self-eq0-clause-goes c =
    let e = ap length (sym c.self.view_is ∙ walk_inner c.self.invariant c.if-self.false (omega arith)) in
    record { on = λ _. (tt, tt, omega arith); keeps = tt; rests = λ _. tt }
