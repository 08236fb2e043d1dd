-- What `recordable` says of an answer: each whole number has room in its field, and none of the four floats is a NaN.
-- By the limits that the crates of the numbers state, and since no comparison of a NaN holds. Assumes nothing.
use mathlib.Core.Path.{◌≡◌, refl}
use mathlib.Core.Bool.{Bool, true, false, not, ◌&&◌, ◌||◌, cond, and-eq-true_iff, false≢true}
use Prim.Native.Nat.{ℕ, ◌^◌, ◌≤◌, ◌<◌}
use native.Mathlib.Omega.{arith}
use borrow.Author.Tests.{eqb-true, leb-true, ltb-true, not-true}
use lib.Dec.{T, eqb, leb, ltb}
use lib.Ieee.{Float, nan, inf, fin, eq, is_nan, le}
use lib.Ieee.Fits.{and_l}
use Rattle.answer.proofs.Given.{given_small}
use Rattle.answer.specs.Numbers.{done, given, too_wide}
use Rattle.answer.specs.Refused.{minus_one}
use Rattle.answer.specs.declared.Answer.{Answer}
use Rattle.answer.specs.declared.Estimate.{Estimate}
use Rattle.bisect.specs.Bisection.{round_limit}
use Rattle.capture.proofs.Limits as capture
use Rattle.capture.specs.Limit.{symbol_limit}
use Rattle.counts.proofs.Refusals.{counts_can_be}
use Rattle.counts.proofs.Whole as counts
use Rattle.counts.specs.Counts.{impossible_counts}
use Rattle.recordable.specs.Recordable.{as_ran, as_refused, blank, likelihoods, placed, recordable, winner_limit, within, won}
use Rattle.rounding.proofs.Compare.{holds}
use Rattle.rounding.proofs.Order.{le_number}
use Rattle.rounding.specs.Doubles.{zero, one}

-- four floats, none of them a NaN
pub record Numeric (e : Estimate) : Type 0 where
  pub global : T (not (is_nan e.p_global))
  pub prime : T (not (is_nan e.p_global_prime))
  pub local : T (not (is_nan e.p_local))
  pub entropy : T (not (is_nan e.min_entropy))

pub record Bounds (a : Answer) : Type 0 where
  pub number : a.number < 256 ^ 1
  pub k : a.k < 256 ^ 2
  pub place : a.place < 256 ^ 4
  pub c : a.estimate.c < 256 ^ 4
  pub n : a.estimate.n < 256 ^ 4
  pub run : a.estimate.max_run_len < 256 ^ 4
  pub rounds : a.rounds < 256 ^ 4
  pub floats : Numeric a.estimate

-- ---- a float that compares is no NaN
within_numeric : (x top : Float) → within x top ≡ true → T (not (is_nan x))
unfolding within
within_numeric x top h = le_number zero x (and_l (le zero x) (le x top) (holds _ h))

equal_numeric : (x y : Float) → eq x y ≡ true → T (not (is_nan x))
unfolding eq is_nan
equal_numeric nan y h = absurd (false≢true h)
equal_numeric (inf s) y h = tt
equal_numeric (fin s m e) y h = tt

either : (a b : Bool) {A : Type 0} → (a || b) ≡ true → (a ≡ true → A) → (b ≡ true → A) → A
either true b h f g = f refl
either false b h f g = g h

likelihoods_numeric : (e : Estimate) → likelihoods e ≡ true → Numeric e
unfolding likelihoods
likelihoods_numeric e h =
    let global = (and-eq-true_iff (within e.p_global one) _).0 h in
    let prime = (and-eq-true_iff (within e.p_global_prime one) _).0 global.1 in
    let local = (and-eq-true_iff (eq e.p_local minus_one || within e.p_local one) _).0 prime.1 in
    record {
      global = within_numeric _ _ global.0;
      prime = within_numeric _ _ prime.0;
      local = either (eq e.p_local minus_one) _ local.0 (equal_numeric e.p_local _) (within_numeric e.p_local _);
      entropy = within_numeric _ _ local.1;
    }

-- ---- an answer of number 0
ran_bounds : (a : Answer) → a.number ≡ done → as_ran a ≡ true → Bounds a
unfolding as_ran
ran_bounds a z h =
    let e = a.estimate in
    let place = (and-eq-true_iff (eqb a.place 0) _).0 h in
    let counts_are = (and-eq-true_iff (not (impossible_counts e.c e.n e.max_run_len a.k)) _).0 place.1 in
    let rounds = (and-eq-true_iff (leb a.rounds round_limit) _).0 counts_are.1 in
    let possible = counts_can_be e.c e.n e.max_run_len a.k (not-true _ counts_are.0) in
    let at_start = eqb-true a.place 0 place.0 in
    let few = leb-true a.rounds round_limit rounds.0 in
    record {
      number = omega arith;
      k = omega arith;
      place = omega arith;
      c = omega (arith, counts.limit_small);
      n = omega (arith, counts.limit_small);
      run = omega (arith, counts.limit_small);
      rounds = omega arith;
      floats = likelihoods_numeric e rounds.1;
    }

-- ---- an answer of any other number
placed_small : (number place : ℕ) → placed number place ≡ true → place < 256 ^ 4
unfolding placed
placed_small number place h = by (eqb number too_wide) h
  where
    by : (b : Bool) → cond b (ltb place symbol_limit) (eqb place 0) ≡ true → place < 256 ^ 4
    by true h = omega (arith, ltb-true place symbol_limit h, capture.limit_small)
    by false h = omega (arith, eqb-true place 0 h)

record Blank (e : Estimate) : Type 0 where
  c : e.c ≡ 0
  n : e.n ≡ 0
  run : e.max_run_len ≡ 0
  floats : Numeric e

blank_is : (e : Estimate) → blank e ≡ true → Blank e
unfolding blank
blank_is e h =
    let c = (and-eq-true_iff (eqb e.c 0) _).0 h in
    let n = (and-eq-true_iff (eqb e.n 0) _).0 c.1 in
    let run = (and-eq-true_iff (eqb e.max_run_len 0) _).0 n.1 in
    let global = (and-eq-true_iff (eq e.p_global minus_one) _).0 run.1 in
    let prime = (and-eq-true_iff (eq e.p_global_prime minus_one) _).0 global.1 in
    let local = (and-eq-true_iff (eq e.p_local minus_one) _).0 prime.1 in
    record {
      c = eqb-true _ _ c.0;
      n = eqb-true _ _ n.0;
      run = eqb-true _ _ run.0;
      floats =
          record {
            global = equal_numeric _ _ global.0;
            prime = equal_numeric _ _ prime.0;
            local = equal_numeric _ _ local.0;
            entropy = equal_numeric _ _ local.1;
          };
    }

refused_bounds : (a : Answer) → given a.number ≡ true → as_refused a ≡ true → Bounds a
unfolding as_refused
refused_bounds a g h =
    let place = (and-eq-true_iff (placed a.number a.place) _).0 h in
    let k = (and-eq-true_iff (eqb a.k 0) _).0 place.1 in
    let rounds = (and-eq-true_iff (eqb a.rounds 0) _).0 k.1 in
    let none = blank_is a.estimate rounds.1 in
    record {
      number = given_small a.number g;
      k = omega (arith, eqb-true a.k 0 k.0);
      place = placed_small a.number a.place place.0;
      c = omega arith;
      n = omega arith;
      run = omega arith;
      rounds = omega (arith, eqb-true a.rounds 0 rounds.0);
      floats = none.floats;
    }

pub recordable_bounds : (a : Answer) → recordable a ≡ true → Bounds a
unfolding recordable
recordable_bounds a h = by (eqb a.number done) refl h
  where
    by : (b : Bool) → eqb a.number done ≡ b → cond b (as_ran a) (given a.number && as_refused a) ≡ true → Bounds a
    by true e h = ran_bounds a (eqb-true a.number done e) h
    by false e h = let p = (and-eq-true_iff (given a.number) (as_refused a)).0 h in refused_bounds a p.0 p.1

-- ---- who predicted
pub record Winning (a : Answer) : Type 0 where
  pub winner : a.winner < 256 ^ 1
  pub score : a.score < 256 ^ 4

at_most : (b : Bool) {x y top : ℕ} → x ≤ top → y ≤ top → cond b x y ≤ top
at_most true p q = p
at_most false p q = q

pub won_bounds : (a : Answer) → a.estimate.n < 256 ^ 4 → won a ≡ true → Winning a
unfolding won
won_bounds a few h =
    let highest = cond (eqb a.number done) winner_limit 0 in
    let most = cond (eqb a.winner 0) 0 a.estimate.n in
    let p = (and-eq-true_iff (leb a.winner highest) (leb a.score most)).0 h in
    let w : highest ≤ winner_limit = at_most (eqb a.number done) (omega arith) (omega arith) in
    let s : most ≤ a.estimate.n = at_most (eqb a.winner 0) (omega arith) (omega arith) in
    record {
      winner = omega (arith, leb-true a.winner highest p.0);
      score = omega (arith, leb-true a.score most p.1);
    }
