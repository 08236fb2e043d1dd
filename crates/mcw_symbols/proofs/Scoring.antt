-- The windows' verdicts as guesses, from the digits of the masks: held against `right`, each has the verdict that the masks tell. Where no window is
-- right the standing is what it was. Assumes nothing.
use mathlib.Core.Path.{◌≡◌, refl, ap, sym, ◌∙◌}
use mathlib.Core.Bool.{Bool, true, false, cond}
use mathlib.Core.List.{List}
use Prim.Native.Nat.{ℕ, ◌+◌, ◌-◌, ◌^◌, ◌<◌}
use native.Mathlib.Omega.{arith}
use native.Mathlib.Nat.{zero-div}
use lib.Dec.{eqb}
use lib.ListN.{length, get_or}
use Rattle.std.specs.Prelude.{Option, Some, None}
use Rattle.race.specs.Race.{Verdict, hit, miss, none, hit_of, judge, sample, Standing, settle}
use Rattle.race.specs.Inner.Held.{counter_limit, settled, tallied}
use Rattle.race.specs.Inner.Raced.{Raced, Room, Scores, counted, heard, heard_from, outcome_in, pointed, raced_at, raced_on, unraced, verdicts_on}
use Rattle.race.proofs.Placing.{raced_none, raced_room, raced_place, raced_ends}
use Rattle.lanes.proofs.Words.{each_lane}
use Rattle.verdicts.specs.Inner.Told.{digit, spoke_of, Told}
use Rattle.verdicts.specs.declared.Masks.{Masks}
use Rattle.mcw_bits.specs.Mcw.{size, said, outcome_of}
use Rattle.mcw_bits.proofs.Place.{said_silent}
use Rattle.mcw_symbols.specs.Inner.Score.{right, number_at, numbers}

-- the verdict of a guess, from the two digits
number_is : (v : Verdict) (spoke hits : ℕ) → spoke ≡ spoke_of v → hits ≡ hit_of v → judge (heard (cond (eqb spoke 0) None (Some hits))) right ≡ v
number_is hit spoke hits e f = rw (e, f)
number_is miss spoke hits e f = rw (e, f)
number_is none spoke hits e f = rw e

-- the guess of a window stands in the list of all
number_listed : (masks : Masks) (j : ℕ) → j < 4 → get_or (numbers masks) j None ≡ number_at masks j
number_listed masks = each_lane (λ (j : ℕ). get_or (numbers masks) j None ≡ number_at masks j) refl refl refl refl

-- the verdicts on all windows
numbers_told : {v : ℕ → Verdict} {masks : Masks} → Told 4 v masks → (j : ℕ) → j < 4 → judge (heard_from (numbers masks) j) right ≡ v j
numbers_told {v} {masks} T j l =
    ap (λ (g : Option ℕ). judge (heard g) right) (number_listed masks j l)
    ∙ number_is (v j) (digit masks.speaking j) (digit masks.rights j) (T.spoke j l) (T.right j l)

-- ---- no window is right

wrong_number : (b : Bool) (st : Standing) (j : ℕ) → settle (judge (heard (cond b None (Some 0))) right) st j ≡ st
wrong_number true st j = refl
wrong_number false st j = refl

module _ (masks : Masks) (z : masks.rights ≡ 0) where
  one : (j : ℕ) (t : Standing) → settle (judge (heard (number_at masks j)) right) t j ≡ t
  one j t =
      let e : digit masks.rights j ≡ 0 = ap (λ (n : ℕ). digit n j) z ∙ rw (zero-div (2 ^ j)) in
      rw e (wrong_number (eqb (digit masks.speaking j) 0) t j)

  stays : (st : Standing) → settled (verdicts_on (numbers masks) right) st 4 ≡ st
  unfolding settled
  stays st = one 3 _ ∙ one 2 _ ∙ one 1 _ ∙ one 0 _

-- ---- a place of the race

pub counted_room : (r : Raced) (g : Option ℕ) (x : ℕ) → Room r → Scores (counted r g x)
counted_room r g x R = record { scores_fit = R.scores.scores_fit }

module _ (r : Raced) (masks : Masks) (w : ℕ) (within : w < 4) (wins : w ≡ r.standing.winner) where
  tallied_is : judge (heard (number_at masks w)) right ≡ verdicts_on (numbers masks) right r.standing.winner
  tallied_is = ap (λ (g : Option ℕ). judge (heard g) right) (sym (number_listed masks w within)) ∙ ap (verdicts_on (numbers masks) right) wins

  pub counted_led : pointed (counted r (number_at masks w) right) (numbers masks) right ≡ raced_on r (numbers masks) right
  counted_led = rw tallied_is refl

  pub counted_alone : masks.rights ≡ 0 → counted r (number_at masks w) right ≡ raced_on r (numbers masks) right
  counted_alone z = rw (tallied_is, stays masks z r.standing) refl

-- the race before place i
abbrev pub raced : List ℕ → ℕ → Raced
raced s i = raced_at 4 (size 0) (said s) s i

pub scored_first : (s : List ℕ) {r : Raced} → r ≡ unraced 4 → r ≡ raced s 0
scored_first s e = e ∙ raced_none 4 (size 0) (said s) (sample s)

module _ (s : List ℕ) (i : ℕ) {r : Raced} (e : r ≡ raced s i) where
  pub score_asks : i < counter_limit → Room r
  score_asks l = rw e (raced_room 4 (size 0) (said s) (sample s) (i - size 0) (omega arith))

  pub scored_next : {masks : Masks} → Told 4 (λ j. judge (said s i j) (sample s i)) masks → {r' : Raced} → r' ≡ raced_on r (numbers masks) right
      → r' ≡ raced s (i + 1)
  scored_next {masks} T f =
      f ∙ ap (λ (q : Raced). raced_on q (numbers masks) right) e
      ∙ raced_place 4 (size 0) (said s) s (omega arith) i right (numbers masks) refl (numbers_told T) (λ l j k. said_silent s i l j k)

  pub scored_last : i ≡ length s → outcome_in r ≡ outcome_of s
  scored_last l = ap outcome_in e ∙ raced_ends 4 (size 0) (said s) s i l
