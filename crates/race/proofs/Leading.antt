-- What one guess does to the scores and to the winner, as the code holds them: after j guesses they are those of `scored` for the first j, and the bar
-- is the winner's score, and 1 at least. Assumes nothing.
use mathlib.Core.Path.{◌≡◌, refl, sym, ap, ◌∙◌}
use mathlib.Core.Bool.{true, false}
use mathlib.Core.List.{List}
use Rattle.std.specs.Prelude.{Option, Some, None}
use Prim.Native.Nat.{ℕ, ◌+◌, ◌≤◌, ◌<◌, max}
use native.Mathlib.Omega.{arith}
use lib.Dec.{eqb}
use lib.ListN.{length, get_or, set}
use lib.Seq.{get_or-set_same, get_or-set_other, set-get_or}
use borrow.Author.Tests.{le-leb, lt-leb}
use Rattle.std.specs.Option.{option_eq}
use Rattle.race.specs.Race.{hit, judge, Standing, point, scored}
use Rattle.race.specs.Inner.Held.{after}
use Rattle.race.specs.Inner.Raced.{heard, heard_from}
use Rattle.race.proofs.Cases.{same?}
use Rattle.race.proofs.Standing.{scored_length, scored_kept, scored_winner, scored_hit, scored_miss, scored_none}

-- j of the sub-predictors have been asked: the winner, the scores, and what the next has to claim
pub record Led (gs : List (Option ℕ)) (st : Standing) (x : ℕ) (ss : List ℕ) (best bar j : ℕ) : Type 0 where
  pub is : after best ss ≡ scored (heard_from gs) x st j
  pub bar_is : bar ≡ max (get_or ss best 0) 1

pub led_none : (gs : List (Option ℕ)) (w x bar : ℕ) (ss : List ℕ) → bar ≡ max (get_or ss w 0) 1 → Led gs (after w ss) x ss w bar 0
unfolding scored
led_none gs w x bar ss e = record { is = refl; bar_is = e }

module _ {gs : List (Option ℕ)} {st : Standing} {x : ℕ} {ss : List ℕ} {best bar j : ℕ} (Q : Led gs st x ss best bar j) where
  pub led_length : length ss ≡ length st.scores
  led_length = ap (λ (q : Standing). length q.scores) Q.is ∙ scored_length (heard_from gs) x st j

  -- the next one's score is the one that it came with
  pub led_score : get_or ss j 0 ≡ get_or st.scores j 0
  led_score = ap (λ (q : Standing). get_or q.scores j 0) Q.is ∙ scored_kept (heard_from gs) x st j j (omega arith)

  -- the winner is one of them
  pub led_winner : st.winner < length st.scores → j ≤ length st.scores → best < length st.scores
  led_winner some l =
      let e : best ≡ (scored (heard_from gs) x st j).winner = ap (λ (q : Standing). q.winner) Q.is in
      omega (arith, scored_winner (heard_from gs) x st (length st.scores) some j l)

  -- a guess that is not right
  module _ (wrong : false ≡ option_eq eqb (get_or gs j None) (Some x)) where
    said : (g : Option ℕ) → get_or gs j None ≡ g → scored (heard_from gs) x st (j + 1) ≡ scored (heard_from gs) x st j
    said None e = scored_none (heard_from gs) x st j (rw e refl)
    said (Some y) e = scored_miss (heard_from gs) x st j (let w : false ≡ eqb y x = rw e at wrong in rw (e, ← w) refl)

    pub led_passes : {p best' bar' : ℕ} → p ≡ get_or ss j 0 → best' ≡ best → bar' ≡ bar → Led gs st x (set ss j p) best' bar' (j + 1)
    led_passes ep eb er = rw (ep, eb, er, set-get_or ss j 0) (record { is = Q.is ∙ sym (said _ refl); bar_is = Q.bar_is })

    pub led_claims : bar ≤ 0 → ⊥
    led_claims l = omega (arith, Q.bar_is)

  -- a right guess
  module _ (here : j < length st.scores) (right : true ≡ option_eq eqb (get_or gs j None) (Some x)) {p : ℕ} (pe : p ≡ get_or ss j 0 + 1) where
    told : (g : Option ℕ) → true ≡ option_eq eqb g (Some x) → judge (heard g) x ≡ hit
    told None e = absurd (cc)
    told (Some y) e = rw (← e) refl

    gains : scored (heard_from gs) x st (j + 1) ≡ point (after best ss) j
    gains = scored_hit (heard_from gs) x st j (told _ right) ∙ ap (λ (q : Standing). point q j) (sym Q.is)

    mine : get_or (set ss j (get_or ss j 0 + 1)) j 0 ≡ get_or ss j 0 + 1
    mine = get_or-set_same ss j (get_or ss j 0 + 1) 0 (omega (arith, led_length))

    theirs : (best ≡ j → ⊥) → get_or (set ss j (get_or ss j 0 + 1)) best 0 ≡ get_or ss best 0
    theirs n = get_or-set_other ss j best (get_or ss j 0 + 1) 0 n

    -- it reaches the bar
    reached : bar ≤ p → get_or (set ss j (get_or ss j 0 + 1)) best 0 ≤ get_or (set ss j (get_or ss j 0 + 1)) j 0
    reached l = same? best j (λ e. rw e (omega arith)) (λ n. omega (arith, mine, theirs n, Q.bar_is))

    pub led_wins : bar ≤ p → {best' bar' : ℕ} → best' ≡ j → bar' ≡ p → Led gs st x (set ss j p) best' bar' (j + 1)
    led_wins l eb er = rw (eb, er, pe) (record { is = rw (gains, le-leb _ _ (reached l)); bar_is = omega (arith, mine) })

    -- or it does not
    apart : p < bar → best ≡ j → ⊥
    apart l e = let f : get_or ss best 0 ≡ get_or ss j 0 = ap (λ (n : ℕ). get_or ss n 0) e in omega (arith, Q.bar_is)

    missed : p < bar → get_or (set ss j (get_or ss j 0 + 1)) j 0 < get_or (set ss j (get_or ss j 0 + 1)) best 0
    missed l = omega (arith, mine, theirs (apart l), Q.bar_is)

    pub led_waits : p < bar → {best' bar' : ℕ} → best' ≡ best → bar' ≡ bar → Led gs st x (set ss j p) best' bar' (j + 1)
    led_waits l eb er =
        rw (eb, er, pe) (record { is = rw (gains, lt-leb _ _ (missed l)); bar_is = omega (arith, Q.bar_is, theirs (apart l)) })
