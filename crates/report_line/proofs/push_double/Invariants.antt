-- The first i digits are put: those of the bits without the 16 - i last ones.
use Rattle.std.proofs.Common.{◌≡◌, ◌++◌, ◌+◌, ◌-◌, ◌/◌, ◌^◌}
use Rattle.arrayvec.specs.ArrayVec.{array_vec_len}
use Rattle.report_line.specs.Numerals.{digits}
use Rattle.report_line.proofs.push_double.Given as goal

abbrev pub invariant-loop-i : goal.invariant-loop-i
invariant-loop-i l =
    (l.text.items ≡ l.initial.text.items ++ digits 16 l.i (l.bits / 16 ^ (16 - l.i))) × (array_vec_len l.text ≡ array_vec_len l.initial.text + l.i)
