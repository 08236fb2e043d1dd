-- `last_step` meets its contract: a counter above 0 gains one; one that is 0 becomes 1 while there is room, and else stays. Assumes nothing.
use mathlib.Core.Path.{sym, ap, ◌∙◌}
use native.Mathlib.Omega.{arith}
use lib.ListN.{set, get_or}
use lib.Seq.{set-get_or}
use Prim.Native.Nat.{◌+◌}
use Rattle.mmc_bits.specs.Levels.{cap}
use Rattle.mmc_bits.proofs.Cases.{bumped_first, bumped_full, bumped-again, kept_first, kept_full, kept_again}
use Rattle.mmc_bits.proofs.step.last_step.Goals as goal

pub returns-then-stored-lt-CAP : goal.returns-then-stored-lt-CAP
returns-then-stored-lt-CAP c = let a = c.args in
    let m = get_or a.part.now (a.at + a.bit) 0 in record { zero_value = c.look-zero.ensures; stored_value = kept_first cap m a.stored c.if-mine-eq0.true c.if-stored-lt-CAP.true; part_after = ap (set a.part.now (a.at + a.bit)) (bumped_first cap m a.stored c.if-mine-eq0.true c.if-stored-lt-CAP.true) }

pub returns-then-mine-eq0 : goal.returns-then-mine-eq0
returns-then-mine-eq0 c = let a = c.args in
    let m = get_or a.part.now (a.at + a.bit) 0 in record {
      zero_value = c.look-zero.ensures;
      stored_value = kept_full cap m a.stored c.if-mine-eq0.true c.if-stored-lt-CAP.false;
      part_after = sym (set-get_or a.part.now (a.at + a.bit) 0)
          ∙ ap (set a.part.now (a.at + a.bit)) (bumped_full cap m a.stored c.if-mine-eq0.true c.if-stored-lt-CAP.false);
    }

pub overflow_add-part : goal.overflow_add-part
overflow_add-part c = omega (arith, c.requires.2)

pub returns : goal.returns
returns c = let a = c.args in
    let m = get_or a.part.now (a.at + a.bit) 0 in record { zero_value = c.look-zero.ensures; stored_value = kept_again cap m a.stored c.if-mine-eq0.false; part_after = ap (set a.part.now (a.at + a.bit)) (bumped-again cap m a.stored c.if-mine-eq0.false) }
