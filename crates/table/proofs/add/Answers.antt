-- `add` writes the numbers that its model sets, in the same order, if there is room for them. The key is missing, so that its entry is the new one,
-- or none. Assumes nothing.
use mathlib.Core.Path.{sym, ◌∙◌}
use native.Mathlib.Omega.{arith}
use Rattle.table.proofs.Laws.{grown_full, makes_new}
use Rattle.table.proofs.add.Goals as goal

pub returns-then-e-gt-ROOM : goal.returns-then-e-gt-ROOM
returns-then-e-gt-ROOM c = let pre = c.requires in (sym (grown_full _ _ (omega (arith, c.if-e-gt-ROOM.true))), sym pre.3 ∙ pre.2.here)

pub returns : goal.returns
returns c = let pre = c.requires in makes_new pre.0 _ (omega (arith, c.if-e-gt-ROOM.false)) pre.1 _ pre.2 pre.3
