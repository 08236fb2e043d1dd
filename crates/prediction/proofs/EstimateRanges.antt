-- Every probability of an estimate that is not refused is a double in its range, so the entropy is never refused inside an
-- estimate and is demand 3's figure of the largest of them. The rounds are within their limit. Assumes nothing.
use mathlib.Core.Path.{◌≡◌, refl, sym, subst}
use mathlib.Core.Bool.{Bool, true, false, cond}
use mathlib.Core.Logic.{◌⊎◌, inl, inr}
use Prim.Native.Nat.{ℕ, ◌^◌, ◌≤◌, ◌<◌, zero-le}
use native.Mathlib.Nat.{pos_of_ne-zero, zero-lt-suc}
use native.Mathlib.Omega.{arith}
use borrow.Author.Tests.{eqb-false}
use lib.Dec.{T, eqb}
use lib.IntN.{pos}
use lib.Ieee.{Float, nan, inf, fin, binary64, prec, fits, is_nan, lt, le}
use lib.Ieee.Exact.{HasValue}
use lib.Ieee.Order.{le_of_values}
use lib.Ieee.Fits.{add-fits, div-fits, cond-fits}
use Rattle.answer.specs.Refused.{minus_one}
use Rattle.entropy.specs.DemandThree.{DemandThree}
use Rattle.entropy.specs.MinEntropy.{Probability, min_entropy_of}
use Rattle.entropy.proofs.Cases.{in_range_number, in_range_value}
use Rattle.entropy.proofs.DemandThree.{demand_three}
use Rattle.entropy.proofs.EntropyRange.{entropy_to_eight, figure_fits}
use Rattle.rounding.specs.Doubles.{◌⊕◌, ◌⊖◌, ◌⊗◌, ◌⊘◌, one, least, whole}
use Rattle.rounding.proofs.Compare.{le_of_lt}
use Rattle.rounding.proofs.Order.{le_chain}
use Rattle.rounding.proofs.FromZero.{nonneg, unsigned, unsigned_of_nonneg, nonneg_of_value, round_unsigned, add_unsigned, mul_unsigned, div_unsigned}
use Rattle.rounding.proofs.Operations.{sub_is}
use Rattle.rounding.proofs.Ranges.{Between, whole_value, share_range, reciprocal_range, complement_range, capped_range}
use Rattle.sqrt.specs.Sqrt.{sqrt_of}
use Rattle.sqrt.proofs.Special.{root_of_nan, root_of_infinity}
use Rattle.sqrt.proofs.Range.{root_nonneg}
use Rattle.zero_count.specs.ZeroCount.{zero_count_bound}
use Rattle.zero_count.proofs.Range.{bound_range, bound_fits}
use Rattle.bisect.specs.Bisection.{local_value, local_rounds, round_limit}
use Rattle.counts.specs.Counts.{count_limit}
use Rattle.counts.specs.Doubles.{z995, at_most_one, larger}
use Rattle.rounding.specs.Doubles as D
use Rattle.prediction.specs.Estimate.{p_global, upper_bound, prime_of, p_global_prime, floor_from, floor_of, can_raise, p_local, rounds_for, largest}
use Rattle.bisect.proofs.FewRounds.{local_rounds_few}
use Rattle.bisect.proofs.LocalRange.{Inside, local_inside}
use Rattle.prediction.proofs.Reaching.{z_nonneg}
use Rattle.counts.specs.Inner.Possible.{Possible}
use Rattle.counts.proofs.Whole.{limit_small}

one_fits : T (fits binary64 one)
unfolding fits
one_fits = tt

least_fits : T (fits binary64 least)
unfolding fits
least_fits = tt

no_true : false ≡ true → ⊥
no_true e = let z : ◌≡◌ {A = ℕ} 0 1 = cc in omega arith

few : (n : ℕ) → n ≤ count_limit → n ≤ 2 ^ prec binary64
few n h = omega (arith, limit_small)

-- "p_global is in 0..1"
pub global_range : (c n : ℕ) → c ≤ n → n ≤ count_limit → Between D.zero (p_global c n) one
unfolding p_global le
global_range c n h l = by_none (eqb n 0) refl
  where
    by_none : (b : Bool) → eqb n 0 ≡ b → Between D.zero (cond b D.zero (whole c ⊘ whole n)) one
    by_none true e = record { finite = tt; from = tt; to = tt }
    by_none false e = share_range binary64 c n h (pos_of_ne-zero (eqb-false n 0 e)) (few n l)

pub global_fits : (c n : ℕ) → T (fits binary64 (p_global c n))
unfolding p_global fits
global_fits c n = cond-fits binary64 (eqb n 0) D.zero (whole c ⊘ whole n) tt (div-fits binary64 (whole c) (whole n))

-- no minus sign comes of the root
root_unsigned : (x : Float) → T (fits binary64 x) → T (unsigned x) → T (unsigned (sqrt_of binary64 x))
root_unsigned nan d u = subst (λ (z : Float). T (unsigned z)) (sym (root_of_nan binary64)) tt
root_unsigned (inf true) d u = absurd u
root_unsigned (inf false) d u = subst (λ (z : Float). T (unsigned z)) (sym (root_of_infinity binary64)) tt
root_unsigned (fin true m e) d u = absurd u
root_unsigned (fin false m e) d u = unsigned_of_nonneg (sqrt_of binary64 (fin false m e)) (root_nonneg (fin false m e) d tt)

-- N - 1
less_one : (n : ℕ) → 0 < n → n ≤ count_limit → T (unsigned (whole n ⊖ one))
less_one n h l =
    let v : HasValue (whole n) false n 1 = whole_value binary64 n (few n l) in
    let p : T (nonneg (whole n)) = nonneg_of_value (whole n) n 1 v in
    let o : T (le one (whole n)) = le_of_values one (whole n) 1 1 n 1 (zero-lt-suc 0) (zero-lt-suc 0) (refl, refl) v (omega arith) in
    subst (λ (z : Float). T (unsigned z)) (sym (sub_is binary64 (whole n) one p tt o)) (round_unsigned binary64 _ _)

upper_unsigned : (p : Float) (n : ℕ) → Between D.zero p one → 0 < n → n ≤ count_limit
    → T (unsigned (p ⊕ z995 ⊗ sqrt_of binary64 (p ⊗ (one ⊖ p) ⊘ (whole n ⊖ one))))
upper_unsigned p n r h l =
    let u : T (unsigned p) = unsigned_of_nonneg p r.finite in
    let q : T (unsigned (one ⊖ p)) = unsigned_of_nonneg (one ⊖ p) (complement_range binary64 p r.finite r.to).finite in
    let s = p ⊗ (one ⊖ p) ⊘ (whole n ⊖ one) in
    let v : T (unsigned s) = div_unsigned binary64 (p ⊗ (one ⊖ p)) (whole n ⊖ one) (mul_unsigned binary64 p (one ⊖ p) u q) (less_one n h l) in
    add_unsigned binary64 p (z995 ⊗ sqrt_of binary64 s) u
    (mul_unsigned binary64 z995 (sqrt_of binary64 s) (unsigned_of_nonneg z995 z_nonneg) (root_unsigned s (div-fits binary64 (p ⊗ (one ⊖ p)) (whole n ⊖ one)) v))

capped_fits : (x y : Float) → T (fits binary64 (at_most_one (x ⊕ y)))
capped_fits x y = cond-fits binary64 (lt (x ⊕ y) one) (x ⊕ y) one (add-fits binary64 x y) one_fits

module _ (c n : ℕ) (h : c ≤ n) (l : n ≤ count_limit) where
  -- p_global above 0 means that there are predictions
  some : lt D.zero (p_global c n) ≡ true → 0 < n
  unfolding p_global lt
  some e = by_none (eqb n 0) refl e
    where
      by_none : (b : Bool) → eqb n 0 ≡ b → lt D.zero (cond b D.zero (whole c ⊘ whole n)) ≡ true → 0 < n
      by_none true q e = absurd (no_true e)
      by_none false q e = pos_of_ne-zero (eqb-false n 0 q)

  -- "p_global' in 0..1"
  pub prime_range : Between D.zero (p_global_prime c n) one
  unfolding prime_of upper_bound
  prime_range = by_some (lt D.zero (p_global c n)) refl
    where
      by_some : (b : Bool) → lt D.zero (p_global c n) ≡ b → Between D.zero (cond b (upper_bound (p_global c n) n) (zero_count_bound n)) one
      by_some true e = capped_range _ (upper_unsigned (p_global c n) n (global_range c n h l) (some e) l)
      by_some false e = bound_range n

  pub prime_fits : T (fits binary64 (p_global_prime c n))
  unfolding prime_of upper_bound
  prime_fits =
      cond-fits binary64 (lt D.zero (p_global c n)) (upper_bound (p_global c n) n) (zero_count_bound n)
      (capped_fits (p_global c n) (z995 ⊗ sqrt_of binary64 (p_global c n ⊗ (one ⊖ p_global c n) ⊘ (whole n ⊖ one))))
      (bound_fits n)

  module _ (k : ℕ) (some-k : 1 ≤ k) (few-k : k ≤ 256) where
    share : Between least (one ⊘ whole k) one
    share = reciprocal_range binary64 k 8 least some-k few-k (omega arith) least_fits (refl, refl)

    -- the larger of 1/k and p_global' is from 1/256 to 1
    pub floor_inside : Inside least (floor_of c n k)
    unfolding floor_from
    floor_inside = by_larger (lt (one ⊘ whole k) (p_global_prime c n)) refl
      where
        by_larger : (b : Bool) → lt (one ⊘ whole k) (p_global_prime c n) ≡ b → Inside least (cond b (p_global_prime c n) (one ⊘ whole k))
        by_larger true e =
            record {
              double = prime_fits;
              range =
                  record {
                    finite = prime_range.finite;
                    from =
                        le_chain least (one ⊘ whole k) (p_global_prime c n) share.from
                        (le_of_lt (one ⊘ whole k) (p_global_prime c n) e);
                    to = prime_range.to;
                  };
            }
        by_larger false e = record { double = div-fits binary64 one (whole k); range = share }

-- p_local is unsolved, or from the floor to 1
pub local_range : (floor : Float) (run n : ℕ) → Inside least floor → (p_local floor run n ≡ minus_one) ⊎ Inside floor (p_local floor run n)
unfolding p_local
local_range floor run n h = by_raise (can_raise floor run n)
  where
    by_raise : (b : Bool) → (cond b (local_value floor run n) minus_one ≡ minus_one) ⊎ Inside floor (cond b (local_value floor run n) minus_one)
    by_raise true = inr (local_inside floor h.range.finite h.range.to run n h.double)
    by_raise false = inl refl

-- "at most 1,076" rounds, and none where p_local is unsolved
pub rounds_for_few : (floor : Float) (run n : ℕ) → rounds_for floor run n ≤ round_limit
unfolding rounds_for
rounds_for_few floor run n = by_raise (can_raise floor run n)
  where
    by_raise : (b : Bool) → cond b (local_rounds floor run n) 0 ≤ round_limit
    by_raise true = local_rounds_few floor run n
    by_raise false = zero-le

-- no number from 0 up is below -1
not_below : (x : Float) → T (nonneg x) → lt x minus_one ≡ false
unfolding lt
not_below nan p = refl
not_below (inf s) p = absurd p
not_below (fin true m e) p = absurd p
not_below (fin false m e) p = refl

with_local : (floor local : Float) → Inside least floor → (local ≡ minus_one) ⊎ Inside floor local → Inside least (larger floor local)
with_local floor local h (inl e) =
    subst (λ (z : Float). Inside least (larger floor z)) (sym e)
    (subst (λ (b : Bool). Inside least (cond b minus_one floor)) (sym (not_below floor h.range.finite)) h)
with_local floor local h (inr g) = by_larger (lt floor local)
  where
    raised : Inside least local
    raised =
        record {
          double = g.double;
          range =
              record {
                finite = g.range.finite;
                from = le_chain least floor local h.range.from g.range.from;
                to = g.range.to;
              };
        }

    by_larger : (b : Bool) → Inside least (cond b local floor)
    by_larger true = raised
    by_larger false = h

module _ (c n run k : ℕ) (q : Possible c n run k) where
  -- "the largest of the three is in 1/256..1"
  pub largest_inside : Inside least (largest c n run k)
  unfolding largest
  largest_inside =
      let f = floor_inside c n q.hits q.few k q.least q.most in
      with_local (floor_of c n k) (p_local (floor_of c n k) run n) f (local_range (floor_of c n k) run n f)

  pub largest_probability : Probability (largest c n run k)
  largest_probability =
      record { double = largest_inside.double; from = largest_inside.range.from; to = largest_inside.range.to }

  -- "so the entropy is never refused inside an estimate"
  pub entropy_answers : (min_entropy_of (largest c n run k)).number ≡ 0
  entropy_answers = in_range_number (largest c n run k) largest_inside.range.from largest_inside.range.to

  -- "the min-entropy is in 0..8", and a number
  pub entropy_in_range : T (le D.zero (min_entropy_of (largest c n run k)).value) × T (le (min_entropy_of (largest c n run k)).value (fin false 1 (pos 3)))
      × (is_nan (min_entropy_of (largest c n run k)).value ≡ false)
  entropy_in_range =
      subst (λ (v : Float). T (le D.zero v) × T (le v (fin false 1 (pos 3))) × (is_nan v ≡ false))
      (sym (in_range_value (largest c n run k) largest_inside.range.from largest_inside.range.to))
      (entropy_to_eight (largest c n run k) largest_probability)

  pub entropy_fits : T (fits binary64 (min_entropy_of (largest c n run k)).value)
  entropy_fits =
      subst (λ (v : Float). T (fits binary64 v))
      (sym (in_range_value (largest c n run k) largest_inside.range.from largest_inside.range.to))
      (figure_fits (largest c n run k))

  -- "demand 3's figure for exactly that largest double"
  pub estimate_demand_three : DemandThree (largest c n run k) (min_entropy_of (largest c n run k)).value
  estimate_demand_three = demand_three (largest c n run k) largest_probability
