-- One place of MultiMCW: the race goes on by what the windows say; the places before 63 change nothing. Assumes nothing.
use mathlib.Core.Path.{◌≡◌, ap, ◌∙◌}
use mathlib.Core.List.{List}
use Prim.Native.Nat.{ℕ, zero, suc, ◌+◌, ◌-◌, ◌≤◌, ◌<◌}
use native.Mathlib.Omega.{arith}
use lib.Dec.{leb}
use lib.ListN.{length, replicate}
use borrow.Author.Tests.{leb-true, leb-false, lt-leb}
use Rattle.race.specs.Race.{Guess, silent, none, judge, sample}
use Rattle.race.specs.Inner.Held.{heard_from, verdicts_on, settled, after, tallied, ended, counter_limit, Countable, Led, Leadable}
use Rattle.race.specs.declared.Leader.{Leader}
use Rattle.race.specs.declared.Tally.{Tally}
use Rattle.race.proofs.Cases.{tested}
use Rattle.race.proofs.Ending.{raced_outcome}
use Rattle.race.proofs.Step.{Raced, race_starts, race_winner, race_length, race_countable, race_leadable, race_idle, race_step}
use Rattle.mcw_bits.specs.Mcw.{size, said, outcome_of}

-- by cases on the window
pub four : (P : ℕ → Type 0) → P 0 → P 1 → P 2 → P 3 → (j : ℕ) → j < 4 → P j
four P a b c d zero l = a
four P a b c d (suc zero) l = b
four P a b c d (suc (suc zero)) l = c
four P a b c d (suc (suc (suc zero))) l = d
four P a b c d (suc (suc (suc (suc j)))) l = absurd (omega arith)

-- the same guess, held against the same
pub same_verdict : {g h : Guess} {x y : ℕ} → g ≡ h → x ≡ y → judge g x ≡ judge h y
same_verdict e f = cc

-- the race before place i
pub record RacedAt (s : List ℕ) (i : ℕ) (leader : Leader) (scores : List ℕ) (t : Tally) : Type 0 where
  pub raced : Raced 4 (size 0) (said s) (sample s) (i - size 0) leader scores t

pub mcw_starts : (s : List ℕ) → RacedAt s 0 (record { winner = 0; bar = 1 }) (replicate 4 0) (record { hits = 0; run = 0; longest = 0 })
mcw_starts s = record { raced = race_starts 4 (size 0) (said s) (sample s) (omega arith) }

-- no window takes part before the first place
pub said_silent : (s : List ℕ) (i : ℕ) → i < size 0 → (j : ℕ) → j < 4 → said s i j ≡ silent
unfolding said
said_silent s i l =
    four (λ (j : ℕ). said s i j ≡ silent)
    (rw (lt-leb (size 0) i l)) (rw (lt-leb (size 1) i (omega arith))) (rw (lt-leb (size 2) i (omega arith))) (rw (lt-leb (size 3) i (omega arith)))

module _ {s : List ℕ} {i : ℕ} {leader : Leader} {scores : List ℕ} {t : Tally} (R : RacedAt s i leader scores t) where
  pub mcw_winner : leader.winner < 4
  mcw_winner = race_winner R.raced (omega arith)

  pub mcw_scores : length scores ≡ 4
  mcw_scores = race_length R.raced

  pub mcw_countable : {x : ℕ} → x < 256 → i < counter_limit → Countable t x
  mcw_countable b l = race_countable R.raced _ b (omega arith)

  pub mcw_leadable : {x : ℕ} {gs : List ℕ} → x < 256 → i < counter_limit → length gs ≡ 4 → Leadable scores gs leader x
  mcw_leadable b l e = race_leadable R.raced _ _ b (omega arith) (omega arith) e

  -- guesses gs that have, held against x, the verdicts of place i
  module _ (x : ℕ) (gs : List ℕ) (many : length gs ≡ 4) (told : (j : ℕ) → j < 4 → judge (heard_from gs j) x ≡ judge (said s i j) (sample s i))
      {leader' : Leader} {scores' : List ℕ} {t' : Tally}
      (L : Led (settled (verdicts_on gs x) (after leader.winner scores) (length gs)) leader' scores')
      (te : t' ≡ tallied (judge (heard_from gs leader.winner) x) t) where
    early : i < size 0 → RacedAt s (i + 1) leader' scores' t'
    early l =
        let e : i + 1 - size 0 ≡ i - size 0 = omega arith in
        let quiet : (j : ℕ) → j < 4 → judge (heard_from gs j) x ≡ none =
        λ j b. told j b ∙ ap (λ (g : Guess). judge g (sample s i)) (said_silent s i l j b) in
        record { raced = rw e (race_idle R.raced x gs (omega arith) many quiet L te) }

    predicted : size 0 ≤ i → RacedAt s (i + 1) leader' scores' t'
    predicted l =
        let e : i + 1 - size 0 ≡ i - size 0 + 1 = omega arith in
        let p : size 0 + (i - size 0) ≡ i = omega arith in
        record { raced = rw e (race_step R.raced x gs (omega arith) many (λ j b. rw p (told j b)) L te) }

    pub mcw_step : RacedAt s (i + 1) leader' scores' t'
    mcw_step = tested (leb (size 0) i) (λ q. predicted (leb-true _ _ q)) (λ q. early (leb-false _ _ q))

  -- after the last place
  pub mcw_outcome : i ≡ length s → ended t leader scores ≡ outcome_of s
  mcw_outcome e = raced_outcome _ _ _ s R.raced (ap (λ n. n - size 0) e)
