-- `search::masked` meets its contract. The mask has all the digits of one lane and no other. Assumes nothing.
use mathlib.Core.Path.{ap, ◌∙◌}
use Prim.Native.Nat.{ℕ}
use lib.Bits.{bit_and}
use Rattle.mcw_symbols.proofs.Finding.{masked_lane}
use Rattle.mcw_symbols.proofs.search.masked.Goals as goal

pub returns : goal.returns
returns c = λ q e. ap (λ (m : ℕ). bit_and c.args.w m) e ∙ masked_lane c.args.w q
