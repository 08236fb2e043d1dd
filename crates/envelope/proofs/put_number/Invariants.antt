-- What each turn of `envelope::put_number` keeps true: the bytes that are put and those of the rest are the whole.
use Prim.Native.Nat.{◌-◌}
use mathlib.Core.Path.{◌≡◌}
use mathlib.Core.List.{◌++◌}
use lib.ListN.{take}
use Rattle.envelope.specs.Little.{little}
use Rattle.envelope.proofs.put_number.Given as goal

abbrev pub invariant-loop-byte : goal.invariant-loop-byte
invariant-loop-byte l = take l.byte-index l.byte-items ++ little (l.width - l.byte-index) l.rest ≡ little l.width l.number
