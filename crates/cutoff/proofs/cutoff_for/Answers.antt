-- `cutoff::cutoff_for` meets its contract: the two tests are the definition's range, in it the answer is the cutoff of the entropy's entry, and out of it
-- number 5. The table has that entry, since it has those of all entropies in range. Assumes nothing.
use mathlib.Core.Path.{◌≡◌, sym, ap, ◌∙◌, subst}
use mathlib.Core.Bool.{true, false}
use Prim.Native.Nat.{ℕ, ◌≤◌}
use lib.Ieee.{Float, of_bits, le}
use Rattle.answer.specs.Numbers.{done, out_of_range}
use Rattle.rounding.specs.Doubles.{eight}
use Rattle.cutoff.specs.Cutoff.{entries, cutoff_at, sixty_fourth, in_range, entry_of, cutoff_of}
use Rattle.cutoff.specs.declared.Cutoff.{Cutoff}
use Rattle.cutoff.proofs.Entries.{in_range_lem, entry_range}
use Rattle.cutoff.proofs.cutoff_for.Goals.{else-entropy-via-then-entropy+else-entropy-2, else-entropy-via-else-entropy}
use Rattle.cutoff.proofs.cutoff_for.Goals as goal

-- ---- the definition's cases
abbrev answered : ℕ → Cutoff
answered n = record { number = done; cutoff = n }

abbrev refused : Cutoff
refused = record { number = out_of_range; cutoff = 0 }

answer_in_lem : (h : Float) → in_range h ≡ true → cutoff_of h ≡ answered (cutoff_at (entry_of h))
unfolding cutoff_of
answer_in_lem h e = rw e

answer_low : (h : Float) → le sixty_fourth h ≡ false → cutoff_of h ≡ refused
unfolding cutoff_of in_range
answer_low h e = rw e

answer_high : (h : Float) → le sixty_fourth h ≡ true → le h eight ≡ false → cutoff_of h ≡ refused
unfolding cutoff_of in_range
answer_high h e g = rw (e, g)

pub entry_of-requires : goal.entry_of-requires
unfolding of_bits
entry_of-requires c = in_range_lem c.args.entropy c.if-entropy.true c.if-entropy-2.true

pub cutoff_at-requires : goal.cutoff_at-requires
unfolding of_bits
cutoff_at-requires c =
    let h = c.args.entropy in
    subst (λ (j : ℕ). (1 ≤ j) × (j ≤ entries)) (sym c.entry_of.ensures)
    (entry_range h (in_range_lem h c.if-entropy.true c.if-entropy-2.true))

pub returns-then-entropy-2 : goal.returns-then-entropy-2
unfolding of_bits
returns-then-entropy-2 c =
    ap answered (c.cutoff_at.ensures ∙ ap cutoff_at c.entry_of.ensures)
    ∙ sym (answer_in_lem c.args.entropy (in_range_lem c.args.entropy c.if-entropy.true c.if-entropy-2.true))

pub returns : goal.returns
unfolding of_bits
returns c =
    elim c.else-entropy.branch [
      | else-entropy-via-then-entropy+else-entropy-2 w ↦ sym (answer_high c.args.entropy w.if-entropy.true w.if-entropy-2.false)
      | else-entropy-via-else-entropy w ↦ sym (answer_low c.args.entropy w.if-entropy.false)
    ]
