-- Where w * w, rounded, is below v, the root of v is not below w; so where p + z w, rounded, is 1 at least, p + z √v is too, for
-- the operations keep the order. Assumes nothing.
use mathlib.Core.Path.{◌≡◌, refl, sym, ap, ◌∙◌, subst}
use mathlib.Core.Bool.{Bool, true, false, cond}
use mathlib.Core.Logic.{inl, inr}
use lib.Dec.{T, not_T}
use lib.Ieee.{Float, nan, inf, fin, binary64, fits, round, add, mul, lt, le}
use lib.Ieee.Bits.{is_true, is_false}
use lib.Ieee.Fits.{sub-fits, mul-fits, round-fits}
use Rattle.rounding.specs.Doubles.{◌⊕◌, ◌⊖◌, ◌⊗◌, zero, one}
use Rattle.rounding.proofs.Compare.{holds, lt_not_le, infinite_or_positive}
use Rattle.rounding.proofs.Order.{le_chain}
use Rattle.rounding.proofs.FromZero.{nonneg, unsigned, nonneg_of_positive, unsigned_of_nonneg, le_self, add_unsigned, mul_unsigned}
use Rattle.rounding.proofs.Monotone.{add_keeps, mul_keeps}
use Rattle.rounding.proofs.Ranges.{Between, complement_range, product_below}
use Rattle.sqrt.specs.Sqrt.{sqrt_of}
use Rattle.sqrt.proofs.Above.{root_above_test}
use Rattle.sqrt.proofs.Range.{root_nonneg}
use Rattle.sqrt.proofs.Special.{root_of_infinity}
use Rattle.counts.specs.Doubles.{z995, at_most_one}

pub z_nonneg : T (nonneg z995)
unfolding z995 round
z_nonneg = tt

z_fits : T (fits binary64 z995)
unfolding z995
z_fits = round-fits binary64 false 2575829303548901 1000000000000000

-- p is finite, and has no minus sign
share_nonneg : (p : Float) → lt zero p ≡ true → T (le p one) → T (nonneg p)
unfolding le
share_nonneg p a b = elim (infinite_or_positive zero p tt a) [ inl e ↦ absurd (subst (λ (x : Float). T (le x one)) e b) | inr q ↦ nonneg_of_positive p q ]

-- p + y' is not below 1 where p + y is 1 at least, for a y up to y'
not_below_one : (p y y' : Float) → T (nonneg p) → T (nonneg y) → T (unsigned y') → T (le y y') → T (le one (p ⊕ y)) → lt (p ⊕ y') one ≡ false
unfolding add lt
not_below_one nan y y' a b u h k = absurd a
not_below_one (inf s) y y' a b u h k = absurd a
not_below_one (fin s m e) y nan a b u h k = refl
not_below_one (fin s m e) y (inf true) a b u h k = absurd u
not_below_one (fin s m e) y (inf false) a b u h k = refl
not_below_one (fin s m e) y (fin r n d) a b u h k = is_false (lt more one) (not_T (lt more one) (λ (t : T (lt more one)).
    let g : lt more one ≡ true = is_true (lt more one) t in
    let l : T (le less more) = add_keeps binary64 p p y (fin r n d) a a b u (le_self p a) h in
    lt_not_le one more tt u' g (le_chain one less more k l)))
  where
    p : Float
    p = fin s m e

    less : Float
    less = p ⊕ y

    more : Float
    more = p ⊕ fin r n d

    u' : T (unsigned more)
    u' = add_unsigned binary64 p (fin r n d) a u

infinity_not_below : (p : Float) → T (nonneg p) → lt (p ⊕ z995 ⊗ inf false) one ≡ false
unfolding z995 round mul add lt
infinity_not_below nan a = absurd a
infinity_not_below (inf s) a = absurd a
infinity_not_below (fin s m e) a = refl

root_not_below : (p w v : Float) → T (nonneg p) → Between zero w one → T (fits binary64 w) → T (fits binary64 v) → lt (w ⊗ w) v ≡ true
    → T (le one (p ⊕ z995 ⊗ w)) → lt (p ⊕ z995 ⊗ sqrt_of binary64 v) one ≡ false
root_not_below p w v a r f g t k =
    let u : T (unsigned w) = unsigned_of_nonneg w r.finite in
    elim (infinite_or_positive (w ⊗ w) v (mul_unsigned binary64 w w u u) t) [
      | inl e ↦
          subst (λ (x : Float). lt (p ⊕ z995 ⊗ x) one ≡ false) (sym (ap (sqrt_of binary64) e ∙ root_of_infinity binary64))
          (infinity_not_below p a)
      | inr q ↦
          let s = sqrt_of binary64 v in
          let n : T (nonneg s) = root_nonneg v g (nonneg_of_positive v q) in
          not_below_one p (z995 ⊗ w) (z995 ⊗ s) a (product_below binary64 z995 w z_nonneg r.finite z_fits r.to).finite
          (mul_unsigned binary64 z995 s (unsigned_of_nonneg z995 z_nonneg) (unsigned_of_nonneg s n))
          (mul_keeps binary64 z995 z995 w s z_nonneg z_nonneg r.finite n (le_self z995 z_nonneg) (root_above_test v w g q f r.finite t)) k
    ]

-- with w the part q of 1 - p
pub bound_is_one : (p v q : Float) → lt zero p ≡ true → T (le p one) → T (nonneg q) → T (le q one) → T (fits binary64 v)
    → lt ((one ⊖ p) ⊗ q ⊗ ((one ⊖ p) ⊗ q)) v ≡ true → le one (p ⊕ z995 ⊗ ((one ⊖ p) ⊗ q)) ≡ true → at_most_one (p ⊕ z995 ⊗ sqrt_of binary64 v) ≡ one
bound_is_one p v q a b c d f t k =
    let n = share_nonneg p a b in
    let o = complement_range binary64 p n b in
    let w = (one ⊖ p) ⊗ q in
    let r = product_below binary64 (one ⊖ p) q o.finite c (sub-fits binary64 one p) d in
    let i : Between zero w one = record { finite = r.finite; from = r.from; to = le_chain w (one ⊖ p) one r.to o.to } in
    ap (λ (x : Bool). cond x (p ⊕ z995 ⊗ sqrt_of binary64 v) one) (root_not_below p w v n i (mul-fits binary64 (one ⊖ p) q) f t (holds _ k))
