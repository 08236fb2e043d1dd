-- `renumber::renumber_all` meets its contract. Each run of eight is written as its numbers, and `renumber_each` writes those that are left. Assumes nothing.
use Rattle.std.proofs.Common.{rules, ◌≡◌, ℕ, ◌<◌, ◌≤◌, ◌*◌, ◌+◌, ◌/◌, List, [], map, length, slice_index_or, take, drop}
use mathlib.Core.Path.{ap, ◌∙◌}
use lib.ListN.{length-drop}
use lib.Seq.{length-take-le}
use native.Mathlib.Omega.{arith}
use Rattle.alphabet.specs.Alphabet.{rising}
use Rattle.marks.proofs.Chunks.{chunk_at}
use Rattle.renumber.proofs.Translating.{run_more, rest_more, maps}
use Rattle.renumber.proofs.renumber_all.Goals as goal

pub loop-i-preserved : goal.loop-i-preserved
loop-i-preserved c =
    let i = c.loop-i.i in
    let s = c.args.ranking.now in
    let t = c.symbols.result.now in
    let eight = slice_index_or c.as_chunks.result.0.now i [] in
    let each : (k : ℕ) → k < 8 → slice_index_or c.map-numbers.result k 0 ≡ rising s (slice_index_or eight k 0) = search rules in
    let inside : i < length t / 8 = omega (arith, c.loop-i-test.true, c.as_chunks.ensures.front_len) in
    let run : eight ≡ take 8 (drop (i * 8) s) =
    ap (λ (z : List (List ℕ)). slice_index_or z i []) c.as_chunks.ensures.front
    ∙ chunk_at 8 (length t / 8) i t [] inside
    ∙ ap (λ (z : List ℕ). take 8 (drop (i * 8) z)) c.symbols.ensures in
    let fits : 8 * i + 8 ≤ length s = omega (arith, inside, ap length c.symbols.ensures) in
    let long : length eight ≡ 8 = ap length run ∙ length-take-le 8 (drop (i * 8) s) (omega (arith, fits, length-drop (i * 8) s)) in
    run_more (rising s) s c.loop-i.out (search rules) i 8 (8 * i) _ (omega arith) fits (search rules)
    (c.copy_from_slice.ensures.after ∙ maps (rising s) eight (search rules) long each ∙ ap (map (rising s)) run) c.loop-i.invariant

pub returns : goal.returns
returns c =
    let i = c.loop-i.i in
    let s = c.args.ranking.now in
    let t = c.symbols.result.now in
    let n : length t / 8 ≡ i = omega (arith, c.loop-i-test.false, c.loop-i.auto.i-end, c.as_chunks.ensures.front_len) in
    let rest : c.as_chunks.result.1.now ≡ drop (i * 8) s =
    c.as_chunks.ensures.back ∙ ap (λ (j : ℕ). drop (j * 8) t) n ∙ ap (drop (i * 8)) c.symbols.ensures in
    rest_more (rising s) s c.loop-i.out (search rules) (i * 8) (8 * length c.as_chunks.result.0.now) _
    (omega (arith, n, c.as_chunks.ensures.front_len)) (omega arith) (c.renumber_each.ensures ∙ ap (map (rising s)) rest) c.loop-i.invariant
