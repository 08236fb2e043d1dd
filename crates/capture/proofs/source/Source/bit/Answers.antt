-- `Source::bit` meets its contract. Bit i stands in byte i / width. Assumes nothing.
use Prim.Native.Nat.{◌*◌, ◌<◌}
use lib.ListN.{length}
use Rattle.capture.specs.Bits.{bit_at}
use Rattle.capture.proofs.Sources.{all_at, all_length}
use Rattle.capture.proofs.Walking.{spot_inside}
use Rattle.capture.proofs.source.Source.bit.Goals as goal

pub bounds-self-inside-i : goal.bounds-self-inside-i
bounds-self-inside-i c =
    let inside : c.args.i < length c.self.inside.symbols.now * c.self.inside.width = rw (← all_length _ _, c.self.view_is) c.requires in
    rw c.from-per.ensures (spot_inside _ _ c.self.invariant.some _ inside)

pub returns : goal.returns
unfolding bit_at
returns c =
    let inside : c.args.i < length c.self.inside.symbols.now * c.self.inside.width = rw (← all_length _ _, c.self.view_is) c.requires in
    rw (c.from-per.ensures, ← c.self.view_is, all_at _ _ _ inside)
