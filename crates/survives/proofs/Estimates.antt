-- Every estimate that counts can come to, alone or on top of a race, and every refusal, is an answer that a record of either kind may hold, and its floats
-- are doubles: what a record holds only in a range stays in it where it is computed. Assumes nothing.
use mathlib.Core.Path.{◌≡◌, refl, sym, ap, ◌∙◌, subst}
use mathlib.Core.Bool.{Bool, true, false, cond, not, ◌&&◌, ◌||◌}
use mathlib.Core.Logic.{◌⊎◌, inl, inr}
use mathlib.Core.List.{List}
use Prim.Native.Nat.{ℕ, ◌≤◌, ◌<◌}
use native.Mathlib.Omega.{arith}
use borrow.Author.Tests.{eq-eqb, ne_eqb, le-leb}
use lib.Dec.{T, eqb}
use lib.Ieee.{Float, binary64, fits, le, eq}
use lib.Ieee.Bits.{is_true}
use lib.ListN.{length}
use Rattle.answer.specs.Numbers.{done, impossible, given}
use Rattle.answer.specs.Predicted.{predicted_by}
use Rattle.answer.specs.Refused.{minus_one, no_estimate, refused_at, refused, ran}
use Rattle.answer.specs.declared.Answer.{Answer}
use Rattle.answer.specs.declared.Estimate.{Estimate}
use Rattle.bisect.proofs.LocalRange.{Inside}
use Rattle.bisect.specs.Bisection.{round_limit}
use Rattle.counts.proofs.Refusals.{counts_can_be}
use Rattle.counts.specs.Inner.Possible.{Possible}
use Rattle.counts.specs.Counts.{impossible_counts}
use Rattle.prediction.proofs.EstimateRanges.{
  entropy_fits,
  entropy_in_range,
  floor_inside,
  global_fits,
  global_range,
  local_range,
  prime_fits,
  prime_range,
  rounds_for_few,
}
use Rattle.prediction.specs.Estimate.{estimate, estimate_of, estimated_of, floor_of, rounds_for}
use Rattle.race.proofs.Ending.{outcome_score, outcome_winner}
use Rattle.race.specs.Race.{Guess, outcome_over, predictions}
use Rattle.race.specs.declared.Outcome.{Outcome}
use Rattle.rating.specs.Rating.{rating_of}
use Rattle.record.specs.Record.{Doubles, kept, write_number}
use Rattle.record.proofs.Trip.{writes_done, written_reads_in}
use Rattle.fields.specs.Fields.{answer_kind, answer_size, is_kind, named_kind, tells}
use Rattle.survives.specs.Survives.{Survives}
use Rattle.recordable.specs.Recordable.{as_ran, as_refused, blank, holdable, likelihoods, placed, recordable, winner_limit, within, won}
use Rattle.recordable.specs.declared.Held.TheVariants.{Named}
use Rattle.rounding.proofs.FromZero.{zero_le_nonneg}
use Rattle.rounding.proofs.Ranges.{Between}
use Rattle.rounding.specs.Doubles.{zero, one, eight}

both : {a b : Bool} → a ≡ true → b ≡ true → (a && b) ≡ true
both {a} {b} p q = ap (λ (z : Bool). z && b) p ∙ q

-- a record of either kind may hold the answer, and its floats are doubles
record Sound (a : Answer) : Type 0 where
  recorded : recordable a ≡ true
  winner : won a ≡ true
  doubles : Doubles a

-- so it survives the trip
survives : {a : Answer} → Sound a → Survives a
unfolding holdable kept tells is_kind
survives {a} h =
    let may : (t : Bool) → holdable t (Named a) ≡ true = λ t. both h.recorded h.winner in
    let done-in : (kind : ℕ) (out : List ℕ) → is_kind kind ≡ true → answer_size kind ≤ length out → write_number (Named a) kind out ≡ done =
    λ kind out k l. writes_done (Named a) kind out k (may (tells kind)) l in
    record {
      written = done-in;
      again = λ out l. written_reads_in (Named a) named_kind out (done-in named_kind out refl l) h.doubles;
      without = λ out l. written_reads_in (Named a) answer_kind out (done-in answer_kind out refl l) h.doubles;
    }

-- ---- who predicted
-- nobody
nobody : (a : Answer) → a.winner ≡ 0 → a.score ≡ 0 → won a ≡ true
unfolding won
nobody a w s =
    both (le-leb a.winner (cond (eqb a.number done) winner_limit 0) (omega arith))
    (le-leb a.score (cond (eqb a.winner 0) 0 a.estimate.n) (omega arith))

-- a winner among those that can be, with a score of at most N
somebody : (a : Answer) → a.number ≡ done → 1 ≤ a.winner → a.winner ≤ winner_limit → a.score ≤ a.estimate.n → won a ≡ true
unfolding won
somebody a d some few score =
    let top = ap (λ (b : Bool). cond b winner_limit 0) (eq-eqb a.number done d) in
    let most = ap (λ (b : Bool). cond b 0 a.estimate.n) (ne_eqb a.winner 0 (λ e. omega arith)) in
    both (le-leb a.winner (cond (eqb a.number done) winner_limit 0) (omega (arith, top)))
    (le-leb a.score (cond (eqb a.winner 0) 0 a.estimate.n) (omega (arith, most)))

minus_one_fits : T (fits binary64 minus_one)
unfolding fits
minus_one_fits = tt

-- ---- a refusal
nothing_blank : blank no_estimate ≡ true
unfolding blank eq
nothing_blank = refl

as_refused_lem : (number place : ℕ) → placed number place ≡ true → as_refused (refused_at number place) ≡ true
unfolding as_refused
as_refused_lem number place p = both p nothing_blank

refusal_sound : (number place : ℕ) → given number ≡ true → eqb number done ≡ false → placed number place ≡ true → Sound (refused_at number place)
unfolding recordable
refusal_sound number place g d p =
    record {
      recorded =
          ap (λ (b : Bool). cond b (as_ran (refused_at number place)) (given number && as_refused (refused_at number place))) d
          ∙ both g (as_refused_lem number place p);
      winner = nobody (refused_at number place) refl refl;
      doubles = record { global = minus_one_fits; prime = minus_one_fits; local = minus_one_fits; entropy = minus_one_fits };
    }

-- ---- an estimate
from_to : (x top : Float) → T (le zero x) → T (le x top) → within x top ≡ true
unfolding within
from_to x top l h = both (is_true (le zero x) l) (is_true (le x top) h)

share : (x : Float) → Between zero x one → within x one ≡ true
share x r = from_to x one r.from r.to

-- p_local is unsolved, or from a floor to 1
local_share : (floor x : Float) → (x ≡ minus_one) ⊎ Inside floor x → (eq x minus_one || within x one) ≡ true
unfolding eq
local_share floor x (inl e) = ap (λ (z : Float). eq z minus_one || within z one) e
local_share floor x (inr h) = or_right (eq x minus_one) (from_to x one (zero_le_nonneg x h.range.finite) h.range.to)
  where
    or_right : (a : Bool) {b : Bool} → b ≡ true → (a || b) ≡ true
    or_right true e = refl
    or_right false e = e

local_fits : (floor x : Float) → (x ≡ minus_one) ⊎ Inside floor x → T (fits binary64 x)
local_fits floor x (inl e) = subst (λ (z : Float). T (fits binary64 z)) (sym e) minus_one_fits
local_fits floor x (inr h) = h.double

as_ran_lem : (k rounds : ℕ) (e : Estimate) → impossible_counts e.c e.n e.max_run_len k ≡ false → rounds ≤ round_limit → likelihoods e ≡ true
    → recordable (ran k rounds e) ≡ true
unfolding recordable as_ran
as_ran_lem k rounds e i r h = both (ap not i) (both (le-leb rounds round_limit r) h)

-- counts that cannot be are refused by number 4
not_possible : Sound (refused impossible)
unfolding given placed
not_possible = refusal_sound impossible 0 refl refl refl

counted : (c n run k : ℕ) (P : Answer → Type 0) → P (refused impossible) → (impossible_counts c n run k ≡ false → P (estimated_of c n run k)) →
    P (estimate_of c n run k)
unfolding estimate_of
counted c n run k P refusal ran_on = by (impossible_counts c n run k) refl
  where
    by : (b : Bool) → impossible_counts c n run k ≡ b → P (cond b (refused impossible) (estimated_of c n run k))
    by true e = refusal
    by false e = ran_on e

-- the answer of counts that can be, with who predicted
module _ (c n run k w s : ℕ) where
  abbrev predicted : Answer
  predicted = predicted_by w s (estimated_of c n run k)

  possible_sound : impossible_counts c n run k ≡ false → won predicted ≡ true → Sound predicted
  unfolding estimated_of estimate likelihoods recordable as_ran
  possible_sound i named =
      let q : Possible c n run k = counts_can_be c n run k i in
      let floor = floor_of c n k in
      let l = local_range floor run n (floor_inside c n q.hits q.few k q.least q.most) in
      let h = entropy_in_range c n run k q in
      record {
        recorded =
            as_ran_lem k (rounds_for floor run n) (estimate c n run k) i (rounds_for_few floor run n)
            (both (share _ (global_range c n q.hits q.few))
            (both (share _ (prime_range c n q.hits q.few)) (both (local_share floor _ l) (from_to _ eight h.0 h.1))));
        winner = named;
        doubles =
            record {
              global = global_fits c n;
              prime = prime_fits c n q.hits q.few;
              local = local_fits floor _ l;
              entropy = entropy_fits c n run k q;
            };
      }

  -- of any counts
  counted_sound : (impossible_counts c n run k ≡ false → won predicted ≡ true) → Sound (predicted_by w s (estimate_of c n run k))
  counted_sound named = counted c n run k (λ a. Sound (predicted_by w s a)) not_possible (λ e. possible_sound e (named e))

-- ---- they survive
pub refusal_survives : (number place : ℕ) → given number ≡ true → eqb number done ≡ false → placed number place ≡ true → Survives (refused_at number place)
refusal_survives number place g d p = survives (refusal_sound number place g d p)

-- the estimate of counts alone, of which nobody is told
pub estimate_survives : (c n run k : ℕ) → Survives (estimate_of c n run k)
unfolding estimated_of
estimate_survives c n run k =
    counted c n run k Survives (survives not_possible)
    (λ e. survives (possible_sound c n run k 0 0 e (nobody (estimated_of c n run k) refl refl)))

-- what a race comes to
rating_survives : (o : Outcome) (n k : ℕ) → 1 ≤ o.winner → o.winner ≤ winner_limit → o.score ≤ n → Survives (rating_of o n k)
unfolding rating_of estimated_of estimate
rating_survives o n k some few score =
    let a = predicted o.hits n o.longest k o.winner o.score in
    survives (counted_sound o.hits n o.longest k o.winner o.score (λ _. somebody a refl some few score))

-- the race of m sub-predictors, where m of them can be told
pub race_survives : (m first : ℕ) (guess : ℕ → ℕ → Guess) (s : List ℕ) (k : ℕ) → 0 < m → m ≤ winner_limit →
    Survives (rating_of (outcome_over m first guess s) (predictions first s) k)
race_survives m first guess s k some few =
    let w = outcome_winner m first guess s some in
    rating_survives (outcome_over m first guess s) (predictions first s) k w.0 (omega (arith, w.1)) (outcome_score m first guess s)
