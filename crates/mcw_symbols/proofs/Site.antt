-- A place of the run, from where its windows have been asked: what each step there needs, and what is kept after it. Assumes nothing.
use mathlib.Core.Path.{◌≡◌, sym, subst}
use mathlib.Core.List.{List}
use Prim.Native.Nat.{ℕ, ◌+◌, ◌≤◌, ◌<◌}
use native.Mathlib.Omega.{arith}
use lib.ListN.{length, get_or}
use Rattle.race.specs.Race.{judge, sample}
use Rattle.lanes.specs.Inner.Lanes.{lane, Marks}
use Rattle.verdicts.specs.Inner.Told.{Told}
use Rattle.verdicts.specs.declared.Masks.{Masks}
use Rattle.mcw_bits.specs.Mcw.{said}
use Rattle.mcw_symbols.specs.Inner.Samples.{Samples}
use Rattle.mcw_symbols.specs.Inner.Ask.{part_at, Taking, Asks}
use Rattle.mcw_symbols.specs.Inner.Advance.{Advanceable, Advances}
use Rattle.mcw_symbols.specs.Inner.Windows.{starts, Bytes, Counted, Gone, Enterable, Enters}
use Rattle.mcw_symbols.specs.Inner.Kept.{Kept}
use Rattle.mcw_symbols.specs.Inner.Tell.{Tells}
use Rattle.mcw_symbols.specs.declared.Candidates.{Candidates}
use Rattle.mcw_symbols.specs.declared.ask.Heard.{Heard}
use Rattle.mcw_symbols.proofs.Keeping.{samples_bytes, asked_kept}
use Rattle.mcw_symbols.proofs.Telling.{right_marks, told}
use Rattle.mcw_symbols.proofs.Going.{enterable, advanceable, went}

pub record Site (s : List ℕ) (k i : ℕ) (cnt latest : List ℕ) (c : Candidates) (x xs taking : ℕ) (r : Heard) : Type 0 where
  pub samples : Samples s k
  pub here : i < length s
  pub kept : Kept s k i cnt latest c
  pub sample_is : x ≡ get_or s i 0
  pub spread_is : (j : ℕ) → j < 4 → lane xs j ≡ x
  pub taking_is : Taking taking (part_at i)
  pub asks : Asks cnt latest k c xs (get_or cnt x 0) taking r

pub site_of : {s : List ℕ} {k i : ℕ} {cnt latest : List ℕ} {c : Candidates} {x xs taking : ℕ} {r : Heard} → Samples s k → i < length s
    → Kept s k i cnt latest c → x ≡ get_or s i 0 → ((j : ℕ) → j < 4 → lane xs j ≡ x) → Taking taking (part_at i)
    → Asks cnt latest k c xs (get_or cnt x 0) taking r → Site s k i cnt latest c x xs taking r
site_of S h K e X T A =
    record { samples = S; here = h; kept = K; sample_is = e; spread_is = X; taking_is = T; asks = A }

module _ {s : List ℕ} {k i : ℕ} {cnt latest : List ℕ} {c : Candidates} {x xs taking : ℕ} {r : Heard} (P : Site s k i cnt latest c x xs taking r) where
  until : i ≤ length s
  until = omega (arith, P.here)

  x_below : x < k
  x_below = rw P.sample_is (P.samples.below i P.here)

  pub site_marks : Marks r.right
  site_marks = right_marks P.samples P.kept until x x_below P.spread_is P.taking_is P.asks

  pub site_told : {masks : Masks} → Tells r.right i masks → Told 4 (λ j. judge (said s i j) (sample s i)) masks
  site_told {masks} M =
      subst (λ (y : ℕ). Told 4 (λ j. judge (said s i j) y) masks) P.sample_is
      (told P.samples P.kept until x x_below P.spread_is P.taking_is P.asks M)

  pub leave_asks : (i < length s) × Bytes s × Counted s (starts i) i cnt
  leave_asks = (P.here, samples_bytes P.samples, P.kept.counted)

  asked : Kept s k i cnt latest r.candidates
  asked = asked_kept P.samples P.kept until x P.taking_is P.asks

  -- once the oldest samples have left, x has come, and the candidates have gone on
  module _ {gone : ℕ} {cnt₁ : List ℕ} (left : Counted s (starts (i + 1)) i cnt₁ × Gone s i gone) where
    pub enter_asks : Enterable cnt₁ latest x i
    enter_asks = enterable P.samples asked P.here x (sym P.sample_is) left.0 left.1

    module _ {cnt₂ latest₂ : List ℕ} {key : ℕ} (N : Enters cnt₁ latest x i cnt₂ latest₂ key) where
      pub advance_asks : Advanceable r.candidates r.alike xs gone key
      advance_asks =
          advanceable P.samples asked P.here x (sym P.sample_is) left.0 left.1 N P.spread_is P.asks.hears.alike_is

      pub gone_on : {c' : Candidates} → Advances r.candidates xs gone key c' → Kept s k (i + 1) cnt₂ latest₂ c'
      gone_on A = went P.samples asked P.here x (sym P.sample_is) left.0 left.1 N P.spread_is A
