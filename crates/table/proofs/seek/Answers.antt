-- A walk for the key: it never passes the key's entry, and ends where the key belongs. The digits that are left, with the 1 above them, are the
-- measure of the loop: once they are used up an entry has the key itself. Assumes nothing.
use native.Mathlib.Omega.{arith}
use Rattle.table.proofs.Seeking.{seeking_start, entry_few, seek_found, seek_ended, seek_next}
use Rattle.table.proofs.seek.Goals as goal

pub loop-key-init : goal.loop-key-init
loop-key-init c = seeking_start c.requires.0 _ c.requires.1

pub read-requires : goal.read-requires
read-requires c = omega (arith, entry_few c.loop-key.invariant _ c.read-e.ensures.0, c.loop-key.invariant.table.long)

pub returns-then-e-eq0 : goal.returns-then-e-eq0
returns-then-e-eq0 c = seek_ended c.loop-key.invariant _ c.read-e.ensures.0 c.if-e-eq0.true

pub returns-then-read-key : goal.returns-then-read-key
returns-then-read-key c =
    seek_found c.loop-key.invariant _ c.read-e.ensures.0 _ c.if-e-eq0.false c.read.ensures.0 c.if-read-key.true

pub loop-key-preserved : goal.loop-key-preserved
loop-key-preserved c =
    seek_next c.loop-key.invariant _ c.read-e.ensures.0 _ c.if-e-eq0.false c.read.ensures.0 _ c.if-read-key.false
    (omega arith)
