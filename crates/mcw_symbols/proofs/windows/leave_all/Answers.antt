-- `windows::leave_all` meets its contract. The windows go on one after the other, and each puts what leaves it into its own lane. Assumes nothing.
use native.Mathlib.Omega.{arith}
use Rattle.mcw_symbols.specs.Inner.Windows.{Counted}
use Rattle.mcw_symbols.proofs.Leaving.{moving, none_moved, all_moved, leavable, leaves_next, gone_four}
use Rattle.mcw_symbols.proofs.windows.leave_all.Goals as goal

pub leave-first-requires : goal.leave-first-requires
leave-first-requires c = leavable c.requires.0 c.requires.1 0 (omega arith) (none_moved c.requires.2)

pub leave-second-requires : goal.leave-second-requires
leave-second-requires c =
    -- what is counted once the first window has gone on, and the next
    let after_one : (let z = c.args in Counted z.s.now (moving z.i 1) z.i c.leave-first.new.cnt) = leaves_next c.requires.0 c.requires.1 0 (omega arith) (none_moved c.requires.2) c.leave-first.ensures in
    leavable c.requires.0 c.requires.1 1 (omega arith) after_one

pub leave-third-requires : goal.leave-third-requires
leave-third-requires c =
    -- what is counted once the first window has gone on, and the next
    let after_one : (let z = c.args in Counted z.s.now (moving z.i 1) z.i c.leave-first.new.cnt) = leaves_next c.requires.0 c.requires.1 0 (omega arith) (none_moved c.requires.2) c.leave-first.ensures in
    let after_two : (let z = c.args in Counted z.s.now (moving z.i 2) z.i c.leave-second.new.cnt) = leaves_next c.requires.0 c.requires.1 1 (omega arith) after_one c.leave-second.ensures in
    leavable c.requires.0 c.requires.1 2 (omega arith) after_two

pub leave-fourth-requires : goal.leave-fourth-requires
leave-fourth-requires c =
    -- what is counted once the first window has gone on, and the next
    let after_one : (let z = c.args in Counted z.s.now (moving z.i 1) z.i c.leave-first.new.cnt) = leaves_next c.requires.0 c.requires.1 0 (omega arith) (none_moved c.requires.2) c.leave-first.ensures in
    let after_two : (let z = c.args in Counted z.s.now (moving z.i 2) z.i c.leave-second.new.cnt) = leaves_next c.requires.0 c.requires.1 1 (omega arith) after_one c.leave-second.ensures in
    let after-three : (let z = c.args in Counted z.s.now (moving z.i 3) z.i c.leave-third.new.cnt) = leaves_next c.requires.0 c.requires.1 2 (omega arith) after_two c.leave-third.ensures in
    leavable c.requires.0 c.requires.1 3 (omega arith) after-three

pub returns : goal.returns
returns c =
    -- what is counted once the first window has gone on, and the next
    let after_one : (let z = c.args in Counted z.s.now (moving z.i 1) z.i c.leave-first.new.cnt) = leaves_next c.requires.0 c.requires.1 0 (omega arith) (none_moved c.requires.2) c.leave-first.ensures in
    let after_two : (let z = c.args in Counted z.s.now (moving z.i 2) z.i c.leave-second.new.cnt) = leaves_next c.requires.0 c.requires.1 1 (omega arith) after_one c.leave-second.ensures in
    let after-three : (let z = c.args in Counted z.s.now (moving z.i 3) z.i c.leave-third.new.cnt) = leaves_next c.requires.0 c.requires.1 2 (omega arith) after_two c.leave-third.ensures in (
      all_moved (leaves_next c.requires.0 c.requires.1 3 (omega arith) after-three c.leave-fourth.ensures),
      gone_four c.requires.1 c.requires.0 _
          (omega (arith, c.leave-first.ensures.gone_is, c.leave-second.ensures.gone_is, c.leave-third.ensures.gone_is, c.leave-fourth.ensures.gone_is)),
    )
