-- `marks::taking` meets its contract. The windows' sizes grow, so a window takes part wherever a longer one does. Assumes nothing.
use mathlib.Core.Path.{refl}
use mathlib.Core.Bool.{true, false}
use native.Mathlib.Omega.{arith}
use borrow.Author.Tests.{le-leb, lt-leb}
use Rattle.lanes.specs.Inner.Lanes.{lane}
use Rattle.mcw_bits.specs.Mcw.{size}
use Rattle.mcw_symbols.proofs.Marking.{marks_four}
use Rattle.mcw_symbols.proofs.marks.taking.Goals as goal

pub returns-then-i-ge-FOURTH : goal.returns-then-i-ge-FOURTH
unfolding lane
returns-then-i-ge-FOURTH c =
    let i = c.args.i in
    marks_four _ i true true true true refl refl refl refl
    (le-leb (size 0) i (omega arith)) (le-leb (size 1) i (omega arith)) (le-leb (size 2) i (omega arith)) (le-leb (size 3) i (omega arith))

pub returns-then-i-ge-THIRD : goal.returns-then-i-ge-THIRD
unfolding lane
returns-then-i-ge-THIRD c =
    let i = c.args.i in
    marks_four _ i true true true false refl refl refl refl
    (le-leb (size 0) i (omega arith)) (le-leb (size 1) i (omega arith)) (le-leb (size 2) i (omega arith)) (lt-leb (size 3) i (omega arith))

pub returns-then-i-ge-SECOND : goal.returns-then-i-ge-SECOND
unfolding lane
returns-then-i-ge-SECOND c =
    let i = c.args.i in
    marks_four _ i true true false false refl refl refl refl
    (le-leb (size 0) i (omega arith)) (le-leb (size 1) i (omega arith)) (lt-leb (size 2) i (omega arith)) (lt-leb (size 3) i (omega arith))

pub returns-then-i-ge-FIRST : goal.returns-then-i-ge-FIRST
unfolding lane
returns-then-i-ge-FIRST c =
    let i = c.args.i in
    marks_four _ i true false false false refl refl refl refl
    (le-leb (size 0) i (omega arith)) (lt-leb (size 1) i (omega arith)) (lt-leb (size 2) i (omega arith)) (lt-leb (size 3) i (omega arith))

pub returns-else-i-ge-FIRST : goal.returns-else-i-ge-FIRST
unfolding lane
returns-else-i-ge-FIRST c =
    let i = c.args.i in
    marks_four _ i false false false false refl refl refl refl
    (lt-leb (size 0) i (omega arith)) (lt-leb (size 1) i (omega arith)) (lt-leb (size 2) i (omega arith)) (lt-leb (size 3) i (omega arith))
