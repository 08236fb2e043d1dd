-- A place of the race over verdicts: the fields that the code leaves are seen as the standing and the counts of the next place. Assumes nothing.
use mathlib.Core.Path.{◌≡◌, refl, sym, ap, ◌∙◌}
use mathlib.Core.Bool.{Bool, true, false, cond}
use mathlib.Core.List.{List, [], ◌∷◌}
use Prim.Native.Nat.{ℕ, zero, suc, ◌+◌, ◌-◌, ◌^◌, ◌≤◌, ◌<◌}
use native.Mathlib.Omega.{arith}
use lib.ListN.{length, get_or, replicate, length-replicate, length-append, get_or-append, get_or-eq_default}
use lib.Seq.{get_or_at}
use lib.Dec.{eqb, ltb}
use borrow.Author.Tests.{ltb-true, ltb-false}
use Rattle.std.proofs.lemmas.List.{ext_get_or}
use Rattle.race.specs.Race.{Guess, silent, says, Verdict, hit, miss, none, judge, Standing, settle, scored}
use Rattle.race.specs.Inner.Held.{counter_limit, settled, tallied}
use Rattle.race.specs.declared.Tally.{Tally}
use Rattle.race.specs.Inner.Raced.{Raced, Room, judged}
use Rattle.race.proofs.Cases.{tested, same?}
use Rattle.race.proofs.Standing.{no_score, scored_settled, settled_alike}
use Rattle.verdicts.specs.Inner.Told.{digit, verdict_in}
use Rattle.verdicts.specs.Inner.Deficits.{is_right, some_of, claims, gain, Behind}
use Rattle.verdicts.specs.Inner.Planes.{bit_at, deficit_at, signs}
use Rattle.verdicts.specs.Inner.Racing.{scores_of, Holds, Leads}
use Rattle.verdicts.specs.Inner.Steps.{Passable, Onwards}
use Rattle.verdicts.specs.declared.Masks.{Masks}
use Rattle.verdicts.proofs.Digits.{digit_le, digit_one}
use Rattle.verdicts.proofs.Deficits.{one, winner_next, behind_next}
use Rattle.verdicts.proofs.Lows.{low_none}
use Rattle.verdicts.proofs.Signs.{signs_none}
use Rattle.verdicts.proofs.Tops.{digit_zero, unset}

-- ---- the scores

module _ (top : ℕ) (planes up : List ℕ) where
  pub scores_length : (m : ℕ) → length (scores_of top planes up m) ≡ m
  unfolding scores_of
  scores_length zero = refl
  scores_length (suc m) = omega (arith, length-append (scores_of top planes up m) ((top - deficit_at planes up m) ∷ []), scores_length m)

  pub scores_at : (m j : ℕ) → j < m → get_or (scores_of top planes up m) j 0 ≡ top - deficit_at planes up j
  unfolding scores_of
  scores_at zero j l = absurd (omega arith)
  scores_at (suc m) j l =
      same? j m
      (λ e. rw e (get_or_at (scores_of top planes up m) (top - deficit_at planes up m) [] 0 m (scores_length m)))
      (λ e. get_or-append (scores_of top planes up m) ((top - deficit_at planes up m) ∷ []) 0 j (omega (arith, scores_length m))
      ∙ scores_at m j (omega arith))

  -- those of a standing that the deficits are behind
  pub scores_behind : {m : ℕ} {st : Standing} → Behind m st top (deficit_at planes up) → scores_of top planes up m ≡ st.scores
  scores_behind {m} {st} B =
      ext_get_or 0 (scores_of top planes up m) st.scores (scores_length m ∙ sym B.scores_are)
      (λ j l. let h : j < m = omega (arith, scores_length m) in omega (arith, scores_at m j h, B.sums j h))

-- before the first place
pub scores_none : (m n : ℕ) → scores_of 0 (replicate n 0) (replicate m 0) m ≡ replicate m 0
scores_none m n =
    ext_get_or 0 (scores_of 0 (replicate n 0) (replicate m 0) m) (replicate m 0)
    (scores_length 0 (replicate n 0) (replicate m 0) m ∙ sym (length-replicate {A = ℕ} m 0))
    (λ j l. let h : j < m = omega (arith, scores_length 0 (replicate n 0) (replicate m 0) m) in
    omega (arith, scores_at 0 (replicate n 0) (replicate m 0) m j h, no_score m j))

pub holds_none : (m n : ℕ) → 0 < m → m ≤ 16 → Holds m (replicate n 0) (replicate m 0) 0 0 0
holds_none m n some few =
    record {
      few = few;
      many = length-replicate {A = ℕ} m 0;
      far_is = sym (signs_none m);
      within = some;
      behind = λ j l. omega (arith, low_none n j, no_score m j);
      winner_none = omega (arith, low_none n 0, no_score m 0);
    }

-- ---- what the code holds

-- the standing of m sub-predictors that is seen
abbrev pub seen : ℕ → List ℕ → List ℕ → ℕ → ℕ → Standing
seen m planes up winner score = record { winner = winner; scores = scores_of score planes up m }

module _ {m : ℕ} {planes up : List ℕ} {winner score : ℕ} (L : Leads m planes up winner score) where
  pub leads_behind : Behind m (seen m planes up winner score) score (deficit_at planes up)
  leads_behind =
      record {
        within = L.within;
        scores_are = scores_length score planes up m;
        sums = λ j l. omega (arith, scores_at score planes up m j l, L.behind j l);
        winner_none = L.winner_none;
      }

  -- the winner's score
  pub leads_score : get_or (scores_of score planes up m) winner 0 ≡ score
  leads_score = omega (arith, scores_at score planes up m winner L.within, L.winner_none)

  -- where there is room, the counts being t
  pub leads_fits : {t : Tally} {r : Raced} → (let a : Raced = record { standing = seen m planes up winner score; tally = t } in a) ≡ r → Room r
      → score < counter_limit
  leads_fits {t} V R =
      let room : Room (record { standing = seen m planes up winner score; tally = t }) = rw V R in
      omega (arith, leads_score, room.scores.scores_fit winner)

module _ {m : ℕ} {planes up : List ℕ} {far winner score : ℕ} (H : Holds m planes up far winner score) where
  pub held_leads : Leads m planes up winner score
  held_leads = record { within = H.within; behind = H.behind; winner_none = H.winner_none }

  pub held_behind : Behind m (seen m planes up winner score) score (deficit_at planes up)
  held_behind = leads_behind held_leads

  pub held_score : get_or (scores_of score planes up m) winner 0 ≡ score
  held_score = leads_score held_leads

-- and back
pub behind_holds : {m : ℕ} {planes up : List ℕ} {far winner score : ℕ} {st : Standing} → Behind m st score (deficit_at planes up) → m ≤ 16
    → length up ≡ m → far ≡ signs up → winner ≡ st.winner → Holds m planes up far winner score
behind_holds B few many f w =
    record {
      few = few;
      many = many;
      far_is = f;
      within = rw w B.within;
      behind = λ j l. omega (arith, B.sums j l);
      winner_none = rw w B.winner_none;
    }

-- ---- one place

-- a guess that has the verdict v where 1 comes
guess_of : Verdict → Guess
guess_of hit = says 1
guess_of miss = says 0
guess_of none = silent

judged_back : (v : Verdict) → judge (guess_of v) 1 ≡ v
unfolding guess_of
judged_back hit = refl
judged_back miss = refl
judged_back none = refl

pub same_standing : {w : ℕ} {s : List ℕ} {st : Standing} → w ≡ st.winner → s ≡ st.scores → (let a : Standing = record { winner = w; scores = s } in a) ≡ st
same_standing p q = rw (p, q) refl

-- who is right by the masks
right_in : (masks : Masks) (j : ℕ) → bit_at masks.rights j ≡ is_right (verdict_in masks j)
right_in masks j = right (bit_at masks.rights j) (eqb (digit masks.speaking j) 1)
  where
    right : (a b : Bool) → a ≡ is_right (cond a hit (cond b miss none))
    right true b = refl
    right false true = refl
    right false false = refl

-- where nobody was right, no score moves
settled_missed : (v : ℕ → Verdict) (st : Standing) (m : ℕ) → ((j : ℕ) → j < m → is_right (v j) ≡ false) → settled v st m ≡ st
unfolding settled
settled_missed v st zero e = refl
settled_missed v st (suc m) e = stays (v m) (settled v st m) m (e m (omega arith)) ∙ settled_missed v st m (λ j l. e j (omega arith))
  where
    stays : (w : Verdict) (s : Standing) (j : ℕ) → is_right w ≡ false → settle w s j ≡ s
    stays hit s j e = absurd (cc)
    stays miss s j e = refl
    stays none s j e = refl

-- where nobody was right, by the masks
module _ (m : ℕ) (masks : Masks) (z : masks.rights ≡ 0) where
  pub settled_quiet : (st : Standing) → settled (verdict_in masks) st m ≡ st
  settled_quiet st =
      settled_missed (verdict_in masks) st m
      (λ j l. sym (right_in masks j) ∙ unset masks.rights j (ap (λ (n : ℕ). digit n j) z ∙ digit_zero j))

  -- the whole place then
  pub judged_quiet : {st : Standing} {t t' : Tally} {r : Raced} → (let a : Raced = record { standing = st; tally = t } in a) ≡ r
      → t' ≡ tallied (verdict_in masks st.winner) t → (let a : Raced = record { standing = st; tally = t' } in a) ≡ judged m r (verdict_in masks)
  judged_quiet {st} V e = rw (← V, e, settled_quiet st) refl

module _ {m : ℕ} {planes up : List ℕ} {far winner score : ℕ} (H : Holds m planes up far winner score) (masks : Masks) where
  abbrev st : Standing
  st = seen m planes up winner score

  -- what is seen, where the counts are t
  module _ {t : Tally} {r : Raced} (V : (let a : Raced = record { standing = st; tally = t } in a) ≡ r) where
    pub score_fits : Room r → score < counter_limit
    score_fits R = leads_fits (held_leads H) V R

    -- what the deficits need
    pub passable : Room r → masks.rights < 2 ^ m → {all : ℕ} → all + 1 ≡ 2 ^ m → Passable far up masks.rights all
    passable R narrow whole =
        let fits : score < counter_limit = score_fits R in
        record {
          few = omega (arith, H.few, H.many);
          whole = rw H.many whole;
          fit = λ j. dec (λ (l : j < m). omega (arith, H.behind j l))
              (λ (l : m ≤ j). omega (arith, get_or-eq_default up 0 {n = j} (omega (arith, H.many))));
          far_is = H.far_is;
          narrow = rw H.many narrow;
        }
      where
        dec : {A : Type 0} {j : ℕ} → (j < m → A) → (m ≤ j → A) → A
        dec {A} {j} f g = tested (ltb j m) (λ t. f (ltb-true _ _ t)) (λ t. g (ltb-false _ _ t))

  pub quiet : masks.rights ≡ 0 → settled (verdict_in masks) st m ≡ st
  quiet z = settled_quiet m masks z st

  pub seen_quiet : {t t' : Tally} {r : Raced} → (let a : Raced = record { standing = st; tally = t } in a) ≡ r → t' ≡ tallied (verdict_in masks winner) t
      → masks.rights ≡ 0 → (let a : Raced = record { standing = st; tally = t' } in a) ≡ judged m r (verdict_in masks)
  seen_quiet V e z = judged_quiet m masks z V e

  module _ {planes' up' : List ℕ} {far' winner' gained : ℕ} (O : Onwards planes up masks.rights winner planes' far' up' winner' gained) where
    abbrev right : ℕ → Bool
    right = bit_at masks.rights

    abbrev before : ℕ → ℕ
    before = deficit_at planes up

    abbrev said : ℕ → Guess
    said j = guess_of (verdict_in masks j)

    rights_are : (j : ℕ) → j < m → right j ≡ is_right (judge (said j) 1)
    rights_are j l = right_in masks j ∙ ap is_right (sym (judged_back (verdict_in masks j)))

    gained_is : gained ≡ gain right before m
    gained_is = rw H.many at O.gained_is

    pub gained_le : gained ≤ 1
    gained_le = rw gained_is (one (some_of (claims right before 0) m))

    next : Behind m (scored said 1 st m) (score + gained) (deficit_at planes' up')
    next =
        rw gained_is
        (behind_next m said 1 st score before right (held_behind H) rights_are (deficit_at planes' up')
        (λ j l. rw (digit_one (digit masks.rights j) (digit_le masks.rights j), ← gained_is) (O.moves.each j (rw H.many l))))

    goes : scored said 1 st m ≡ settled (verdict_in masks) st m
    goes =
        scored_settled said 1 st m
        ∙ settled_alike (λ j. judge (said j) 1) (verdict_in masks) st m (λ j l. judged_back (verdict_in masks j))

    winner_is : winner' ≡ (scored said 1 st m).winner
    winner_is = O.winner_is ∙ rw H.many (sym (winner_next m said 1 st score before right (held_behind H) rights_are))

    -- the standing of the next place
    pub stands_next : seen m planes' up' winner' (score + gained) ≡ settled (verdict_in masks) st m
    stands_next = same_standing winner_is (scores_behind (score + gained) planes' up' next) ∙ goes

    pub holds_next : Holds m planes' up' far' winner' (score + gained)
    holds_next = behind_holds next H.few (O.moves.many ∙ H.many) O.moves.far_is winner_is

    -- and the counts
    pub seen_next : {t t' : Tally} {r : Raced} → (let a : Raced = record { standing = st; tally = t } in a) ≡ r → t' ≡ tallied (verdict_in masks winner) t
        → (let a : Raced = record { standing = seen m planes' up' winner' (score + gained); tally = t' } in a) ≡ judged m r (verdict_in masks)
    seen_next V e = rw (← V, e, stands_next) refl
