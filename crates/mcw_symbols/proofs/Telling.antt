-- The windows' marks, told as masks, tell their verdicts. Assumes nothing.
use mathlib.Core.Path.{◌≡◌, sym, ap, ◌∙◌}
use mathlib.Core.Bool.{Bool, true, false, cond}
use mathlib.Core.List.{List}
use Prim.Native.Nat.{ℕ, ◌^◌, ◌≤◌, ◌<◌}
use native.Mathlib.Omega.{arith}
use native.Mathlib.Nat.{zero-div}
use lib.ListN.{length, get_or}
use borrow.Author.Tests.{le-leb}
use Rattle.race.specs.Race.{judge}
use Rattle.lanes.specs.Inner.Lanes.{lane, marked, Marks}
use Rattle.lanes.proofs.Words.{each_lane, lane_zero}
use Rattle.lanes.proofs.Marking.{marks_of}
use Rattle.verdicts.specs.Inner.Told.{digit, Told}
use Rattle.verdicts.specs.declared.Masks.{Masks}
use Rattle.mcw_bits.specs.Mcw.{size, said}
use Rattle.mcw_symbols.specs.Inner.Samples.{Samples}
use Rattle.mcw_symbols.specs.Inner.Ask.{part_at, Taking, says_surely, Asks}
use Rattle.mcw_symbols.specs.Inner.Kept.{Kept}
use Rattle.mcw_symbols.specs.Inner.Tell.{Gathers, Tells}
use Rattle.mcw_symbols.specs.declared.Candidates.{Candidates}
use Rattle.mcw_symbols.specs.declared.ask.Heard.{Heard}
use Rattle.mcw_symbols.proofs.Judging.{verdict_right, verdict_spoken}

-- no mark, no digit
pub none_gathered : (marks : ℕ) → marks ≡ 0 → Gathers marks 0
none_gathered marks z = record { few = omega arith; each = λ j l t e. unmarked j t (sym e ∙ ap (λ (n : ℕ). lane n j) z ∙ lane_zero j) }
  where
    unmarked : (j : ℕ) (t : Bool) → marked t ≡ 0 → digit 0 j ≡ cond t 1 0
    unmarked j true e = absurd (omega arith)
    unmarked j false e = rw (zero-div (2 ^ j))

-- from the longest window's size on every window speaks
pub all_speak : (i : ℕ) → size 3 ≤ i → (j : ℕ) → j < 4 → digit 15 j ≡ cond (part_at i j) 1 0
all_speak i l =
    each_lane (λ (j : ℕ). digit 15 j ≡ cond (part_at i j) 1 0)
    (rw (le-leb (size 0) i (omega arith))) (rw (le-leb (size 1) i (omega arith))) (rw (le-leb (size 2) i (omega arith))) (rw (le-leb (size 3) i l))

pub taking_marks : (taking i : ℕ) → Taking taking (part_at i) → Marks taking
taking_marks taking i T = marks_of taking (part_at i) T

-- at a place where the windows were asked
module _ {s : List ℕ} {k i : ℕ} {cnt latest : List ℕ} {c : Candidates} (S : Samples s k) (K : Kept s k i cnt latest c) (h : i ≤ length s)
    (x : ℕ) (b : x < k) {xs taking : ℕ} {r : Heard} (X : (j : ℕ) → j < 4 → lane xs j ≡ x) (T : Taking taking (part_at i))
    (A : Asks cnt latest k c xs (get_or cnt x 0) taking r) where
  pub right_marks : Marks r.right
  right_marks = marks_of r.right (λ j. says_surely r.candidates xs j (part_at i j)) (A.hears.right_is (part_at i) T)

  pub told : {masks : Masks} → Tells r.right i masks → Told 4 (λ j. judge (said s i j) x) masks
  told M =
      record {
        right = λ j l.
            M.rights_are.each j l (says_surely r.candidates xs j (part_at i j)) (A.hears.right_is (part_at i) T j l) ∙ sym (verdict_right S K h x b X T A j l);
        spoke = λ j l. M.spoken j l ∙ sym (verdict_spoken s i x j);
        few = omega (arith, M.rights_are.few);
      }
