-- `search::settle` meets its contract. The favourite of the lane's window is found, and put into that lane with its count; no other lane moves.
-- Assumes nothing.
use mathlib.Core.Path.{ap, ◌∙◌}
use Prim.Native.Nat.{ℕ, ◌+◌, ◌<◌}
use native.Mathlib.Omega.{arith}
use Rattle.lanes.specs.Inner.Lanes.{half}
use Rattle.mcw_symbols.proofs.Settling.{mask_is, put_here, put_there, count_room, settled_of}
use Rattle.mcw_symbols.proofs.search.settle.Goals as goal

pub put-requires : goal.put-requires
put-requires c =
    (c.requires.1, omega (arith, c.favourite-b.ensures.within, c.requires.0.few))

pub overflow_add-n : goal.overflow_add-n
overflow_add-n c =
    -- a count leaves room for one more
    let room : c.lane_at-n.result < half = count_room c.requires.0 c.requires.1 c.favourite-b.ensures.within c.lane_at-n.ensures in
    omega (arith, room)

pub put-requires-2 : goal.put-requires-2
put-requires-2 c =
    -- a count leaves room for one more
    let room : c.lane_at-n.result < half = count_room c.requires.0 c.requires.1 c.favourite-b.ensures.within c.lane_at-n.ensures in
    (c.requires.1, omega (arith, room))

pub put-requires-3 : goal.put-requires-3
put-requires-3 c =
    -- a count leaves room for one more
    let room : c.lane_at-n.result < half = count_room c.requires.0 c.requires.1 c.favourite-b.ensures.within c.lane_at-n.ensures in
    (c.requires.1, omega (arith, room))

pub returns : goal.returns
returns c =
    let at = c.args.at in
    let p₁ = c.put.ensures in
    let p₂ = c.put-2.ensures in
    let p₃ = c.put-3.ensures in
    record {
      settled = λ q e. let l : q < 4 = omega (arith, c.requires.1.inside) in
          settled_of _ q c.favourite-b.result (p₁ q e q l ∙ put_here q _ _)
          (c.favourite-b.ensures.found q (mask_is at q c.requires.1.inside e))
          (p₂ q e q l ∙ put_here q _ _ ∙ ap (λ (n : ℕ). n + 1) (c.lane_at-n.ensures q e)) (p₃ q e q l ∙ put_here q _ _ ∙ c.lane_at-n.ensures q e);
      others = λ q e j l n. record { symbol_is = p₁ q e j l ∙ put_there j q _ _ n; key_is = p₂ q e j l ∙ put_there j q _ _ n; bound_is = p₃ q e j l ∙ put_there j q _ _ n };
    }
