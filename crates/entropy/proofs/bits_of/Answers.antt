-- `entropy::bits_of` meets its contract: m is a whole number that a double holds, so the cast is exact, and the product with 2 ^ -24 is m / 2 ^ 24
-- rounded once. Assumes nothing.
use mathlib.Core.Path.{sym, ap, ◌∙◌}
use Prim.Native.Nat.{◌^◌}
use native.Mathlib.Nat.{le_trans}
use native.Mathlib.Omega.{arith}
use lib.Dec.{lit≤}
use lib.Ieee.{of_bits, neg}
use Rattle.entropy.specs.Entropy.{bits_of}
use Rattle.entropy.proofs.ReportedValue.{bits_of_none, bits_of_product}
use Rattle.entropy.proofs.bits_of.Goals as goal

pub returns-then-m-eq0 : goal.returns-then-m-eq0
unfolding of_bits neg
returns-then-m-eq0 c = sym bits_of_none ∙ ap bits_of (sym c.if-m-eq0.true)

pub returns : goal.returns
unfolding of_bits
returns c = rw c.from.ensures (bits_of_product c.args.m c.if-m-eq0.false (le_trans (omega arith) (lit≤ {m = 2 ^ 32} {n = 2 ^ 53} tt)))
