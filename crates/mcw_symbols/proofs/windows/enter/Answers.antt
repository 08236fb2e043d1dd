-- `windows::enter` meets its contract. Each lane of a count has room for 3 more. Assumes nothing.
use mathlib.Core.Path.{refl, ap, ◌∙◌}
use Prim.Native.Nat.{ℕ, ◌+◌}
use lib.ListN.{get_or, set}
use Rattle.mcw_symbols.specs.Inner.Windows.{ones}
use Rattle.mcw_symbols.proofs.Counts.{count_roomy, more_roomy}
use Rattle.mcw_symbols.proofs.windows.enter.Goals as goal

pub one_more-n-requires : goal.one_more-n-requires
one_more-n-requires c = count_roomy (get_or c.args.cnt.now c.args.x 0) c.requires.room

pub key_of-requires : goal.key_of-requires
key_of-requires c = rw c.one_more-n.ensures (more_roomy (get_or c.args.cnt.now c.args.x 0) c.requires.room)

pub returns : goal.returns
returns c =
    let z = c.args in
    record {
      cnt_is = ap (λ (n : ℕ). set z.cnt.now z.x n) c.one_more-n.ensures;
      latest_is = refl;
      key_is = c.key_of.ensures ∙ ap (λ (n : ℕ). n + ones) c.one_more-n.ensures;
    }
