-- One place by deficits: the next winner is the `successor`, the largest score grows by the `gain`, and each deficit by the gain less the point that
-- a right one got.
-- Assumes nothing.
use mathlib.Core.Path.{◌≡◌, refl, sym, ap, ◌∙◌}
use mathlib.Core.Bool.{Bool, true, false, cond}
use Prim.Native.Nat.{ℕ, zero, suc, ◌+◌, ◌≤◌, ◌<◌}
use native.Mathlib.Omega.{arith}
use lib.Dec.{eqb}
use lib.ListN.{length, get_or}
use lib.Seq.{get_or-set_same, get_or-set_other}
use borrow.Author.Tests.{eqb-true, eqb-false, le-leb, lt-leb}
use Rattle.race.specs.Race.{Guess, Verdict, hit, miss, none, judge, Standing, point, settle, scored}
use Rattle.verdicts.specs.Inner.Deficits.{last_of, some_of, is_right, claims, gain, successor, Behind}
use Rattle.race.proofs.Cases.{tested, same?}
use Rattle.verdicts.proofs.Finding.{some_found, some_none, last_none}
use Rattle.race.proofs.Standing.{settle_other, scored_length, scored_kept, scored_winner}

-- a point
module _ (st : Standing) (j : ℕ) (l : j < length st.scores) where
  mine : get_or (point st j).scores j 0 ≡ get_or st.scores j 0 + 1
  mine = get_or-set_same st.scores j (get_or st.scores j 0 + 1) 0 l

  theirs : (q : ℕ) → (q ≡ j → ⊥) → get_or (point st j).scores q 0 ≡ get_or st.scores q 0
  theirs q n = get_or-set_other st.scores j q (get_or st.scores j 0 + 1) 0 n

  reached : get_or st.scores st.winner 0 ≤ get_or st.scores j 0 + 1 → get_or (point st j).scores st.winner 0 ≤ get_or (point st j).scores j 0
  reached h = same? st.winner j (λ e. rw e (omega arith)) (λ n. omega (arith, mine, theirs st.winner n))

  takes : get_or st.scores st.winner 0 ≤ get_or st.scores j 0 + 1 → (point st j).winner ≡ j
  takes h = rw (le-leb _ _ (reached h))

  module _ (h : get_or st.scores j 0 + 1 < get_or st.scores st.winner 0) where
    apart : st.winner ≡ j → ⊥
    apart e = let f : get_or st.scores st.winner 0 ≡ get_or st.scores j 0 = ap (λ (n : ℕ). get_or st.scores n 0) e in omega arith

    keeps_score : get_or (point st j).scores st.winner 0 ≡ get_or st.scores st.winner 0
    keeps_score = theirs st.winner apart

    keeps : (point st j).winner ≡ st.winner
    keeps =
        let u : get_or (point st j).scores j 0 < get_or (point st j).scores st.winner 0 = omega (arith, mine, keeps_score) in
        rw (lt-leb _ _ u)

pub one : (b : Bool) → cond b 1 0 ≤ 1
one true = omega arith
one false = omega arith

-- a right one with no deficit lets the largest score grow, so no deficit falls below 0
pub gain_enough : (r : ℕ → Bool) (d : ℕ → ℕ) (m j : ℕ) → j < m → cond (r j) 1 0 ≤ d j + gain r d m
gain_enough r d m j l =
    tested (r j)
    (λ e. tested (eqb (d j) 0)
    (λ z. rw (e, some_found (claims r d 0) m j l (rw (e, z))) (omega arith))
    (λ z. let nz : d j ≡ 0 → ⊥ = eqb-false _ _ z in omega (arith, one (r j))))
    (λ e. rw e (omega arith))

-- one place
module _ (m : ℕ) (g : ℕ → Guess) (x : ℕ) (st : Standing) (top : ℕ) (d : ℕ → ℕ) (r : ℕ → Bool) (D : Behind m st top d)
    (rs : (j : ℕ) → j < m → r j ≡ is_right (judge (g j) x)) where
  -- after the first j are asked; b: a leader was right
  record Asked (j : ℕ) (b : Bool) : Type 0 where
    some_is : some_of (claims r d 0) j ≡ b
    winner_is : (scored g x st j).winner ≡ cond b (last_of (claims r d 0) st.winner j) (last_of (claims r d 1) st.winner j)
    best_is : get_or (scored g x st j).scores (scored g x st j).winner 0 ≡ top + cond b 1 0

  module _ (j : ℕ) (l : j < m) where
    long : j < length (scored g x st j).scores
    long = omega (arith, scored_length g x st j, D.scores_are)

    score_is : d j + get_or (scored g x st j).scores j 0 ≡ top
    score_is = rw (scored_kept g x st j j (omega arith)) (D.sums j l)

    -- it is not right
    wrong_is : (v : Verdict) → judge (g j) x ≡ v → is_right v ≡ false → scored g x st (suc j) ≡ scored g x st j
    unfolding scored
    wrong_is hit e f = absurd (let z : true ≡ false = f in let k : ◌≡◌ {A = ℕ} 0 1 = cc in omega arith)
    wrong_is miss e f = rw e
    wrong_is none e f = rw e

    right_is : (v : Verdict) → judge (g j) x ≡ v → is_right v ≡ true → scored g x st (suc j) ≡ point (scored g x st j) j
    unfolding scored
    right_is hit e f = rw e
    right_is miss e f = absurd (let z : false ≡ true = f in let k : ◌≡◌ {A = ℕ} 0 1 = cc in omega arith)
    right_is none e f = absurd (let z : false ≡ true = f in let k : ◌≡◌ {A = ℕ} 0 1 = cc in omega arith)

    asked_wrong : {b : Bool} → Asked j b → r j ≡ false → Asked (suc j) b
    unfolding some_of last_of
    asked_wrong A e =
        let q : scored g x st (suc j) ≡ scored g x st j = wrong_is (judge (g j) x) refl (sym (rs j l) ∙ e) in
        record { some_is = rw e A.some_is; winner_is = rw (q, e) A.winner_is; best_is = rw q A.best_is }

    -- it is right
    module _ (e : r j ≡ true) where
      given : scored g x st (suc j) ≡ point (scored g x st j) j
      given = right_is (judge (g j) x) refl (sym (rs j l) ∙ e)

      -- it has no deficit
      asked_leader : {b : Bool} → Asked j b → eqb (d j) 0 ≡ true → Asked (suc j) true
      unfolding some_of last_of
      asked_leader {b} A z =
          let dz : d j ≡ 0 = eqb-true _ _ z in
          let t : (point (scored g x st j) j).winner ≡ j = takes (scored g x st j) j long (omega (arith, A.best_is, score_is, one b)) in
          record { some_is = rw (e, z); winner_is = rw (given, e, z) t; best_is = rw (given, t) (omega (arith, mine (scored g x st j) j long, score_is)) }

      -- a leader was right, and it has a deficit
      asked_late : Asked j true → eqb (d j) 0 ≡ false → Asked (suc j) true
      unfolding some_of last_of
      asked_late A z =
          let nz : d j ≡ 0 → ⊥ = eqb-false _ _ z in
          let h : get_or (scored g x st j).scores j 0 + 1 < get_or (scored g x st j).scores (scored g x st j).winner 0 =
          omega (arith, A.best_is, score_is) in
          let t : (point (scored g x st j) j).winner ≡ (scored g x st j).winner = keeps (scored g x st j) j long h in
          record {
            some_is = rw (e, z) A.some_is;
            winner_is = rw (given, e, z) (t ∙ A.winner_is);
            best_is = rw (given, t) (keeps_score (scored g x st j) j long h ∙ A.best_is);
          }

      -- no leader was right, and it is behind by one
      asked_next : Asked j false → eqb (d j) 0 ≡ false → eqb (d j) 1 ≡ true → Asked (suc j) false
      unfolding some_of last_of
      asked_next A z o =
          let dz : d j ≡ 1 = eqb-true _ _ o in
          let t : (point (scored g x st j) j).winner ≡ j = takes (scored g x st j) j long (omega (arith, A.best_is, score_is)) in
          record {
            some_is = rw (e, z) A.some_is;
            winner_is = rw (given, e, o) t;
            best_is = rw (given, t) (omega (arith, mine (scored g x st j) j long, score_is));
          }

      asked_far : Asked j false → eqb (d j) 0 ≡ false → eqb (d j) 1 ≡ false → Asked (suc j) false
      unfolding some_of last_of
      asked_far A z o =
          let nz : d j ≡ 0 → ⊥ = eqb-false _ _ z in
          let no : d j ≡ 1 → ⊥ = eqb-false _ _ o in
          let h : get_or (scored g x st j).scores j 0 + 1 < get_or (scored g x st j).scores (scored g x st j).winner 0 =
          omega (arith, A.best_is, score_is) in
          let t : (point (scored g x st j) j).winner ≡ (scored g x st j).winner = keeps (scored g x st j) j long h in
          record {
            some_is = rw (e, z) A.some_is;
            winner_is = rw (given, e, o) (t ∙ A.winner_is);
            best_is = rw (given, t) (keeps_score (scored g x st j) j long h ∙ A.best_is);
          }

    renamed : {b : Bool} → Asked (suc j) b → Asked (suc j) (some_of (claims r d 0) (suc j))
    renamed A = rw A.some_is A

    asked_step : (b : Bool) → Asked j b → Asked (suc j) (some_of (claims r d 0) (suc j))
    asked_step b A =
        tested (r j)
        (λ e. tested (eqb (d j) 0) (λ z. renamed (asked_leader e A z)) (λ z. behind b A e z))
        (λ e. renamed (asked_wrong A e))
      where
        behind : (c : Bool) → Asked j c → r j ≡ true → eqb (d j) 0 ≡ false → Asked (suc j) (some_of (claims r d 0) (suc j))
        behind true C e z = renamed (asked_late e C z)
        behind false C e z = tested (eqb (d j) 1) (λ o. renamed (asked_next e C z o)) (λ o. renamed (asked_far e C z o))

  asked_none : Asked 0 false
  unfolding some_of last_of scored
  asked_none = record { some_is = refl; winner_is = refl; best_is = omega (arith, D.sums st.winner D.within, D.winner_none) }

  asked : (j : ℕ) → j ≤ m → Asked j (some_of (claims r d 0) j)
  unfolding some_of
  asked zero l = asked_none
  asked (suc j) l = asked_step j l (some_of (claims r d 0) j) (asked j (omega arith))

  pub winner_next : (scored g x st m).winner ≡ successor r d st.winner m
  winner_next = (asked m (omega arith)).winner_is

  pub best_next : get_or (scored g x st m).scores (scored g x st m).winner 0 ≡ top + gain r d m
  best_next = (asked m (omega arith)).best_is

  -- each right one has a point more
  settled : (v : Verdict) (s : Standing) (j : ℕ) → j < length s.scores → get_or (settle v s j).scores j 0 ≡ get_or s.scores j 0 + cond (is_right v) 1 0
  settled hit s j h = mine s j h
  settled miss s j h = omega arith
  settled none s j h = omega arith

  pub points : (j q : ℕ) → q < j → j ≤ m → get_or (scored g x st j).scores q 0 ≡ get_or st.scores q 0 + cond (r q) 1 0
  unfolding scored
  points zero q h l = absurd (omega arith)
  points (suc j) q h l =
      same? q j
      (λ e. rw e (rw (rs j l) (settled (judge (g j) x) (scored g x st j) j (long j l) ∙ rw (scored_kept g x st j j (omega arith)))))
      (λ n. settle_other (judge (g j) x) (scored g x st j) j q n ∙ points j q (omega arith) (omega arith))

  -- the deficits after the place
  pub behind_next : (d' : ℕ → ℕ) → ((j : ℕ) → j < m → d' j + cond (r j) 1 0 ≡ d j + gain r d m) → Behind m (scored g x st m) (top + gain r d m) d'
  behind_next d' moved =
      let w : (scored g x st m).winner < m = scored_winner g x st m D.within m (omega arith) in
      let k = (scored g x st m).winner in
      record {
        within = w;
        scores_are = scored_length g x st m ∙ D.scores_are;
        sums = λ j l. omega (arith, moved j l, points m j l (omega arith), D.sums j l);
        winner_none = omega (arith, best_next, moved k w, points m k w (omega arith), D.sums k w);
      }

-- where nobody is right, the winner and the largest score stay
module _ (r : ℕ → Bool) (d : ℕ → ℕ) (m : ℕ) (wrong : (j : ℕ) → j < m → r j ≡ false) where
  no_claim : (k j : ℕ) → j < m → claims r d k j ≡ false
  no_claim k j l = rw (wrong j l)

  pub quiet_gain : gain r d m ≡ 0
  quiet_gain = rw (some_none (claims r d 0) m (no_claim 0))

  pub quiet_successor : (w : ℕ) → successor r d w m ≡ w
  quiet_successor w = rw (some_none (claims r d 0) m (no_claim 0)) (last_none (claims r d 1) w m (no_claim 1))

-- other names for the same deficits
pub behind_ext : {m : ℕ} {st : Standing} {top : ℕ} {d : ℕ → ℕ} → Behind m st top d → (d' : ℕ → ℕ) → ((j : ℕ) → j < m → d' j ≡ d j) → Behind m st top d'
behind_ext {m} {st} {top} {d} B d' e =
    record {
      within = B.within;
      scores_are = B.scores_are;
      sums = λ j l. rw (e j l) (B.sums j l);
      winner_none = e st.winner B.within ∙ B.winner_none;
    }
