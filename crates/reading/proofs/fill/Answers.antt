-- A read adds its bytes behind those that stand, and one that gives none ends the input.
use Rattle.std.specs.Prelude.{Option}
use Rattle.std.proofs.Common.{◌≡◌, ℕ, ◌+◌, ◌-◌, ◌≤◌, List, ◌++◌, rules, arith, length, take, slice_range, sym, ap, ◌∙◌, subst, le_refl, drop_at, length-take-le}
use Rattle.std.proofs.lemmas.Slice.{take-put_mid_below}
use Rattle.std.specs.Io.KnownBytes.{Consumes}
use Rattle.std.proofs.KnownBytes.{Consumes-trans, Consumes-kept}
use borrow.Rule.Slice.PartMut.{put_mid, post_of}
use lib.Seq.{take-add, take-append-le}
use Rattle.reading.proofs.fill.Goals.{in-Ok, in-Err+else-ne}
use Rattle.reading.proofs.fill.Goals as goal

take_split : (a b : ℕ) (old new : List ℕ) → a ≤ b → take a new ≡ take a old → take a old ++ slice_range new a b ≡ take b new
take_split a b old new h front =
    let same : a + (b - a) ≡ b = omega arith in
    ap (λ l. l ++ slice_range new a b) (sym front) ∙ sym (take-add a (b - a) new) ∙ ap (λ n. take n new) same

slice_range-put_mid : (a k n : ℕ) (xs ys : List ℕ) → a ≤ length xs → n ≤ length ys → slice_range (put_mid a k xs ys) a (a + n) ≡ take n ys
slice_range-put_mid a k n xs ys within fits =
    let same : (a + n) - a ≡ n = omega arith in
    let after = post_of a k xs in
    ap (take ((a + n) - a)) (drop_at (take a xs) (ys ++ after) a (length-take-le a xs within)) ∙ ap (λ m. take m (ys ++ after)) same ∙ take-append-le n ys after fits

-- what is kept: the length, and at the start what was read by then
abbrev Filled : Option (List ℕ) → Option (List ℕ) → List ℕ → List ℕ → ℕ → Type 0
Filled start rest old new n = (length new ≡ length old) × (n ≤ length new) × Consumes start rest (take n new)

pub loop-preserved : goal.loop-preserved
loop-preserved g c =
    let from = c.loop.done in
    let room = length c.loop.out - from in
    let within = c.loop.invariant.1 in
    let new = put_mid from room c.loop.out c.read.new.buf in
    let front = take-put_mid_below from room c.loop.out c.read.new.buf from (le_refl _) within in
    let start = g.R.Read.remaining c.args.input.now in
    let rest = g.R.Read.remaining c.read.new.self in
    let kept = Filled start rest c.args.out.now new in
    elim c.match-read.branch [
      | in-Ok w ↦
          let n = w.in-Ok.n in
          let part = slice_range-put_mid from room n c.loop.out c.read.new.buf within (search rules) in
          let joined = take_split from (from + n) c.loop.out new (omega arith) front in
          let taken : Consumes start rest (take (from + n) new) = subst (Consumes _ _) (ap (λ l. take from c.loop.out ++ l) (sym part) ∙ joined) (Consumes-trans _ _ _ _ _ c.loop.invariant.2 (search rules)) in
          subst kept (sym w.done-is) (search rules, search rules, taken)
      | in-Err+else-ne w ↦
          let taken : Consumes start rest (take from new) = subst (Consumes _ _) (sym front) (Consumes-kept _ _ _ _ c.loop.invariant.2 w.in-Err.ensures.bytes) in
          subst kept (sym w.done-is) (search rules, search rules, taken)
    ]
