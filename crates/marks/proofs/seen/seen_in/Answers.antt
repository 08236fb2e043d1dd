-- `marks::seen::seen_in` meets its contract. The values of the fours passed are marked, and no others, and `see_each` marks those that are left.
-- Assumes nothing.
use mathlib.Core.Path.{◌≡◌, sym, subst, ap, ◌∙◌}
use mathlib.Core.List.{List, []}
use Prim.Native.Nat.{ℕ, ◌*◌, ◌/◌, ◌<◌}
use native.Mathlib.Omega.{arith}
use lib.ListN.{get_or, length, take, drop, replicate, take-append-drop}
use mathlib.Core.Bool.{false}
use Rattle.marks.specs.Inner.Seen.{Sees}
use Rattle.marks.proofs.Chunks.{chunk_at, past_chunk}
use Rattle.marks.proofs.Seeing.{sees_none, sees_more, seen_all}
use Rattle.marks.proofs.seen.seen_in.Goals as goal

pub loop-four-init : goal.loop-four-init
loop-four-init c = sees_none _

pub loop-four-preserved : goal.loop-four-preserved
loop-four-preserved c =
    let i = c.loop-four.four-index in
    let s = c.args.symbols.now in
    let inside : i < length s / 4 = omega (arith, c.loop-four-test.true, c.as_chunks.ensures.front_len) in
    let four : get_or c.as_chunks.result.0.now i [] ≡ take 4 (drop (i * 4) s) =
    ap (λ (z : List (List ℕ)). get_or z i []) c.as_chunks.ensures.front ∙ chunk_at 4 (length s / 4) i s [] inside in
    subst (λ (t : List ℕ). Sees (replicate 256 false) t c.see_four.new.seen) (sym (past_chunk 4 i s))
    (sees_more c.loop-four.invariant (rw four at c.see_four.ensures))

pub returns : goal.returns
returns c =
    let i = c.loop-four.four-index in
    let s = c.args.symbols.now in
    let n : i ≡ length s / 4 = omega (arith, c.loop-four-test.false, c.loop-four.auto.four-index-end, c.as_chunks.ensures.front_len) in
    let rest : c.as_chunks.result.1.now ≡ drop (i * 4) s = rw n c.as_chunks.ensures.back in
    seen_all
    (subst (λ (t : List ℕ). Sees (replicate 256 false) t c.see_each.new.seen) (take-append-drop (i * 4) s)
    (sees_more c.loop-four.invariant (rw rest at c.see_each.ensures)))
