-- What the run keeps true: before bit i each window has the number of its ones and the ring the latest bits, and the race is that over the places before
-- i. Assumes nothing.
use mathlib.Core.Path.{◌≡◌, sym, ap, ◌∙◌}
use mathlib.Core.List.{List, [], ◌∷◌}
use Prim.Native.Nat.{ℕ, suc, ◌+◌, ◌≤◌, ◌<◌, ◌%◌}
use native.Mathlib.Numerals.{add-one}
use native.Mathlib.Omega.{arith}
use lib.ListN.{length, get_or, drop, set, replicate, length-drop}
use lib.Seq.{drop-cons}
use Rattle.capture.specs.Inner.Sources.{AreBits}
use Rattle.race.specs.Race.{judge}
use Rattle.race.specs.Inner.Held.{Countable, Leadable, Led, after, counter_limit, ended, heard_from, settled, tallied, verdicts_on}
use Rattle.race.specs.declared.Leader.{Leader}
use Rattle.race.specs.declared.Tally.{Tally}
use Rattle.mcw_bits.specs.Mcw.{outcome_of}
use Rattle.mcw_bits.specs.Inner.Ones.{AllOnes, AllRoll, Ring, Rolled, Small}
use Rattle.mcw_bits.specs.Inner.Say.{Sayings}
use Rattle.mcw_bits.proofs.Ones.{all_roll, all_rolled, ones_small, ones_start, ring_next, ring_start, votes_heard}
use Rattle.mcw_bits.proofs.Place.{RacedAt, mcw_countable, mcw_leadable, mcw_outcome, mcw_scores, mcw_starts, mcw_step, mcw_winner, same_verdict}

pub record Running (s : List ℕ) (i : ℕ) (left ring ones : List ℕ) (leader : Leader) (scores : List ℕ) (t : Tally) : Type 0 where
  pub within : i ≤ length s
  pub left_is : left ≡ drop i s
  pub ring_is : Ring s i ring
  pub ones_are : AllOnes s i ones
  pub raced : RacedAt s i leader scores t

pub starts : (s : List ℕ) {left : List ℕ} → left ≡ s →
    Running s 0 left (replicate 4096 0) (replicate 4 0) (record { winner = 0; bar = 1 }) (replicate 4 0) (record { hits = 0; run = 0; longest = 0 })
starts s e = record { within = omega arith; left_is = e; ring_is = ring_start s; ones_are = ones_start s; raced = mcw_starts s }

-- at the place that the turn is told
pub at : {s : List ℕ} {n i : ℕ} {left ring ones : List ℕ} {leader : Leader} {scores : List ℕ} {t : Tally} → i ≡ n
    → Running s n left ring ones leader scores t → Running s i left ring ones leader scores t
at e R = rw e R

module _ {s : List ℕ} {i : ℕ} {left ring ones : List ℕ} {leader : Leader} {scores : List ℕ} {t : Tally} (B : AreBits s)
    (R : Running s i left ring ones leader scores t) where
  soon : i < counter_limit
  soon = omega (arith, R.within, B.short)

  pub few_left : i + length left < 4294967296
  few_left = omega (arith, R.within, B.short, length-drop i s, ap length R.left_is)

  pub asks : Small ones
  asks = ones_small B R.ones_are R.within

  pub winner_within : leader.winner < 4
  winner_within = mcw_winner R.raced

  pub scores_four : length scores ≡ 4
  scores_four = mcw_scores R.raced

  -- the bit x comes
  module _ {x : ℕ} {rest : List ℕ} (e : left ≡ x ∷ rest) where
    pub inside : i < length s
    inside = omega (arith, length-drop i s, ap length (sym R.left_is ∙ e))

    comes : (get_or s i 0 ≡ x) × (drop (suc i) s ≡ rest)
    comes = let d = sym (drop-cons s i 0 inside) ∙ sym R.left_is ∙ e in (cc, cc)

    pub symbol : x < 256
    symbol = omega (arith, comes.0, B.below i inside)

    pub counts : Countable t x
    counts = mcw_countable R.raced symbol soon

    pub leads : {gs : List ℕ} → length gs ≡ 4 → Leadable scores gs leader x
    leads {gs} f = mcw_leadable R.raced {x = x} {gs = gs} symbol soon f

    pub rolling : AllRoll ones ring i x
    rolling = all_roll B R.ones_are R.ring_is inside (sym comes.0)

    pub goes : {gs next : List ℕ} {leader' : Leader} {scores' : List ℕ} {t' : Tally} → Sayings ones i gs
        → Led (settled (verdicts_on gs x) (after leader.winner scores) (length gs)) leader' scores'
        → t' ≡ tallied (judge (heard_from gs leader.winner) x) t → Rolled ones ring i x 4 next
        → Running s (i + 1) rest (set ring (i % 4096) x) next leader' scores' t'
    goes {gs} S L T N =
        record {
          within = omega (arith, inside);
          left_is = rw (add-one i) (sym comes.1);
          ring_is = ring_next R.ring_is (sym comes.0);
          ones_are = all_rolled B R.ones_are R.ring_is inside (sym comes.0) N;
          raced = mcw_step R.raced x gs S.full (λ j l. same_verdict (votes_heard B R.ones_are R.within S j l) (sym comes.0)) L T;
        }

  pub ends : left ≡ [] → ended t leader scores ≡ outcome_of s
  ends e = mcw_outcome R.raced (omega (arith, R.within, length-drop i s, ap length (sym R.left_is ∙ e)))
