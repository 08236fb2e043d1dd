-- The standing after some places, over any number of sub-predictors, any guesses and any truth; and the events, one for each place in order. Assumes nothing.
use mathlib.Core.Path.{◌≡◌, refl, ap, ◌∙◌}
use mathlib.Core.Bool.{Bool, true, false, cond}
use mathlib.Core.List.{[], ◌∷◌}
use Prim.Native.Nat.{ℕ, zero, suc, ◌+◌, ◌≤◌, ◌<◌}
use native.Mathlib.Omega.{arith}
use native.Mathlib.Numerals.{add-one}
use lib.Dec.{leb}
use lib.ListN.{length, get_or, set, replicate, length-set, length-replicate, length-append, get_or-append}
use lib.Seq.{get_or-set_same, get_or-set_other, get_or_at}
use Rattle.race.specs.Inner.Held.{settled}
use Rattle.race.specs.Race.{Guess, Verdict, hit, miss, none, judge, Standing, point, settle, scored, Event, longest}
use Rattle.race.specs.Race.{standing, event, events, hits, final_score}
use Rattle.race.proofs.Cases.{same?}
use Rattle.race.proofs.Trace.{hits_le, longest_le_hits, hits_longest}

settle_length : (v : Verdict) (st : Standing) (j : ℕ) → length (settle v st j).scores ≡ length st.scores
settle_length hit st j = length-set st.scores j _
settle_length miss st j = refl
settle_length none st j = refl

pub settle_other : (v : Verdict) (st : Standing) (j q : ℕ) → (q ≡ j → ⊥) → get_or (settle v st j).scores q 0 ≡ get_or st.scores q 0
settle_other hit st j q n = get_or-set_other st.scores j q _ 0 n
settle_other miss st j q n = refl
settle_other none st j q n = refl

settle_le : (v : Verdict) (st : Standing) (j : ℕ) → j < length st.scores → get_or (settle v st j).scores j 0 ≤ get_or st.scores j 0 + 1
settle_le hit st j l = omega (arith, get_or-set_same st.scores j (get_or st.scores j 0 + 1) 0 l)
settle_le miss st j l = omega arith
settle_le none st j l = omega arith

cond_lt : (b : Bool) (j w m : ℕ) → j < m → w < m → cond b j w < m
cond_lt true j w m p q = p
cond_lt false j w m p q = q

settle_winner : (v : Verdict) (st : Standing) (j m : ℕ) → j < m → st.winner < m → (settle v st j).winner < m
settle_winner hit st j m p q =
    cond_lt (leb (get_or (set st.scores j (get_or st.scores j 0 + 1)) st.winner 0) (get_or (set st.scores j (get_or st.scores j 0 + 1)) j 0)) j
    st.winner m p q
settle_winner miss st j m p q = q
settle_winner none st j m p q = q

-- within a place
module _ (g : ℕ → Guess) (x : ℕ) (st : Standing) where
  pub scored_length : (j : ℕ) → length (scored g x st j).scores ≡ length st.scores
  unfolding scored
  scored_length zero = refl
  scored_length (suc j) = settle_length (judge (g j) x) (scored g x st j) j ∙ scored_length j

  -- who has not been asked yet has the points that it had
  pub scored_kept : (j q : ℕ) → j ≤ q → get_or (scored g x st j).scores q 0 ≡ get_or st.scores q 0
  unfolding scored
  scored_kept zero q l = refl
  scored_kept (suc j) q l = settle_other (judge (g j) x) (scored g x st j) j q (λ e. omega arith) ∙ scored_kept j q (omega arith)

  pub scored_le : (j q : ℕ) → j ≤ length st.scores → get_or (scored g x st j).scores q 0 ≤ get_or st.scores q 0 + 1
  unfolding scored
  scored_le zero q l = omega arith
  scored_le (suc j) q l =
      same? q j
      (λ e. rw e (omega (arith, settle_le (judge (g j) x) (scored g x st j) j (omega (arith, scored_length j)), scored_kept j j (omega arith))))
      (λ e. omega (arith, settle_other (judge (g j) x) (scored g x st j) j q e, scored_le j q (omega arith)))

  pub scored_winner : (m : ℕ) → st.winner < m → (j : ℕ) → j ≤ m → (scored g x st j).winner < m
  unfolding scored
  scored_winner m p zero l = p
  scored_winner m p (suc j) l = settle_winner (judge (g j) x) (scored g x st j) j m l (scored_winner m p j (omega arith))

  -- a place by its guesses is the place by their verdicts
  pub scored_settled : (m : ℕ) → scored g x st m ≡ settled (λ j. judge (g j) x) st m
  unfolding scored settled
  scored_settled zero = refl
  scored_settled (suc m) = ap (λ (t : Standing). settle (judge (g m) x) t m) (scored_settled m)

  -- only the verdicts count: right, wrong or silent is all that a place needs of a guess
  pub scored_alike : (g' : ℕ → Guess) (x' m : ℕ) → ((j : ℕ) → j < m → judge (g j) x ≡ judge (g' j) x') → scored g x st m ≡ scored g' x' st m
  unfolding scored
  scored_alike g' x' zero e = refl
  scored_alike g' x' (suc m) e = rw (e m (omega arith), scored_alike g' x' m (λ j l. e j (omega arith)))

  pub scored_ext : (g' : ℕ → Guess) (m : ℕ) → ((j : ℕ) → j < m → g j ≡ g' j) → scored g x st m ≡ scored g' x st m
  scored_ext g' m e = scored_alike g' x m (λ j l. ap (λ (q : Guess). judge q x) (e j l))

  -- where all are silent, nothing changes
  pub scored_silent : (m : ℕ) → ((j : ℕ) → j < m → judge (g j) x ≡ none) → scored g x st m ≡ st
  unfolding scored
  scored_silent zero e = refl
  scored_silent (suc m) e = rw (e m (omega arith)) (scored_silent m (λ j l. e j (omega arith)))

  -- one step, by the verdict
  pub scored_hit : (j : ℕ) → judge (g j) x ≡ hit → scored g x st (j + 1) ≡ point (scored g x st j) j
  unfolding scored
  scored_hit j e = rw (add-one j, e)

  pub scored_miss : (j : ℕ) → judge (g j) x ≡ miss → scored g x st (j + 1) ≡ scored g x st j
  unfolding scored
  scored_miss j e = rw (add-one j, e)

  pub scored_none : (j : ℕ) → judge (g j) x ≡ none → scored g x st (j + 1) ≡ scored g x st j
  unfolding scored
  scored_none j e = rw (add-one j, e)

-- the same by verdicts
pub settled_alike : (v v' : ℕ → Verdict) (st : Standing) (m : ℕ) → ((j : ℕ) → j < m → v j ≡ v' j) → settled v st m ≡ settled v' st m
unfolding settled
settled_alike v v' st zero e = refl
settled_alike v v' st (suc m) e = rw (e m (omega arith), settled_alike v v' st m (λ j l. e j (omega arith)))

pub settled_silent : (v : ℕ → Verdict) (st : Standing) (m : ℕ) → ((j : ℕ) → j < m → v j ≡ none) → settled v st m ≡ st
unfolding settled
settled_silent v st zero e = refl
settled_silent v st (suc m) e = rw (e m (omega arith)) (settled_silent v st m (λ j l. e j (omega arith)))

pub no_score : (m q : ℕ) → get_or (replicate {A = ℕ} m 0) q 0 ≡ 0
no_score zero q = refl
no_score (suc m) zero = refl
no_score (suc m) (suc q) = no_score m q

module _ (m first : ℕ) (guess : ℕ → ℕ → Guess) (truth : ℕ → ℕ) where
  pub standing_length : (n : ℕ) → length (standing m first guess truth n).scores ≡ m
  unfolding standing
  standing_length zero = length-replicate {A = ℕ} m 0
  standing_length (suc n) = scored_length (guess (first + n)) (truth (first + n)) (standing m first guess truth n) m ∙ standing_length n

  pub standing_winner : 0 < m → (n : ℕ) → (standing m first guess truth n).winner < m
  unfolding standing
  standing_winner p zero = p
  standing_winner p (suc n) = scored_winner (guess (first + n)) (truth (first + n)) (standing m first guess truth n) m (standing_winner p n) m (omega arith)

  -- no score is above the number of places
  pub standing_le : (n q : ℕ) → get_or (standing m first guess truth n).scores q 0 ≤ n
  unfolding standing
  standing_le zero q = omega (arith, no_score m q)
  standing_le (suc n) q =
      omega (arith, standing_le n q, scored_le (guess (first + n)) (truth (first + n)) (standing m first guess truth n) m q (omega (arith, standing_length n)))

  -- one event for each place
  pub events_length : (n : ℕ) → length (events m first guess truth n) ≡ n
  unfolding events
  events_length zero = refl
  events_length (suc n) = omega (arith, length-append (events m first guess truth n) (event m first guess truth n ∷ []), events_length n)

  -- in order
  pub events_at : (n i : ℕ) (d : Event) → i < n → get_or (events m first guess truth n) i d ≡ event m first guess truth i
  unfolding events
  events_at zero i d l = absurd (omega arith)
  events_at (suc n) i d l =
      same? i n
      (λ e. rw e (get_or_at (events m first guess truth n) (event m first guess truth n) [] d n (events_length n)))
      (λ e. get_or-append (events m first guess truth n) (event m first guess truth n ∷ []) d i (omega (arith, events_length n))
      ∙ events_at n i d (omega arith))

  pub events_place : (n i : ℕ) (d : Event) → i < n → (get_or (events m first guess truth n) i d).place ≡ first + i
  unfolding event
  events_place n i d l = ap (λ (e : Event). e.place) (events_at n i d l)

  -- C is at most N, the longest run at most C, and where C is above 0 so is the run
  pub correct_le : (n : ℕ) → hits (events m first guess truth n) ≤ n
  correct_le n = omega (arith, hits_le (events m first guess truth n), events_length n)

  pub run_le_correct : (n : ℕ) → longest (events m first guess truth n) ≤ hits (events m first guess truth n)
  run_le_correct n = longest_le_hits (events m first guess truth n)

  pub correct_run : (n : ℕ) → 0 < hits (events m first guess truth n) → 0 < longest (events m first guess truth n)
  correct_run n = hits_longest (events m first guess truth n)

  pub final_score_le : (n : ℕ) → final_score m first guess truth n ≤ n
  final_score_le n = standing_le n (standing m first guess truth n).winner

  -- nothing but the guesses and the truth of the places passed counts
  module _ (guess' : ℕ → ℕ → Guess) (truth' : ℕ → ℕ) where
    pub standing_ext : (n : ℕ) → ((i j : ℕ) → i < n → j < m → guess (first + i) j ≡ guess' (first + i) j) →
        ((i : ℕ) → i < n → truth (first + i) ≡ truth' (first + i))
        → standing m first guess truth n ≡ standing m first guess' truth' n
    unfolding standing
    standing_ext zero g t = refl
    standing_ext (suc n) g t =
        rw (t n (omega arith), standing_ext n (λ i j l. g i j (omega arith)) (λ i l. t i (omega arith)))
        (scored_ext (guess (first + n)) (truth' (first + n)) (standing m first guess' truth' n) (guess' (first + n)) m (λ j l. g n j (omega arith) l))

    pub event_ext : 0 < m → (n : ℕ) → ((i j : ℕ) → i ≤ n → j < m → guess (first + i) j ≡ guess' (first + i) j) →
        ((i : ℕ) → i ≤ n → truth (first + i) ≡ truth' (first + i))
        → event m first guess truth n ≡ event m first guess' truth' n
    unfolding event
    event_ext p n g t =
        rw (
          g n (standing m first guess truth n).winner (omega arith) (standing_winner p n),
          t n (omega arith),
          standing_ext n (λ i j l. g i j (omega arith)) (λ i l. t i (omega arith)),
        )

    pub events_ext : 0 < m → (n : ℕ) → ((i j : ℕ) → i < n → j < m → guess (first + i) j ≡ guess' (first + i) j) →
        ((i : ℕ) → i < n → truth (first + i) ≡ truth' (first + i))
        → events m first guess truth n ≡ events m first guess' truth' n
    unfolding events
    events_ext p zero g t = refl
    events_ext p (suc n) g t =
        rw (events_ext p n (λ i j l. g i j (omega arith)) (λ i l. t i (omega arith)), event_ext p n (λ i j l. g i j (omega arith)) (λ i l. t i (omega arith)))
