-- Comparison of floats is comparison of the exact values: the code's tests `<`, `<=`, `==` of two finite values not below zero, as facts of their
-- fractions, and back.
-- `cross_of_le` and `le_of_cross` of FromZero are the rest of `<=`. Assumes nothing.
use mathlib.Core.Path.{◌≡◌, refl, sym, ◌∙◌, subst}
use Prim.Native.Nat.{◌*◌, ◌≤◌, ◌<◌, zero-le}
use mathlib.Core.Logic.{◌⊎◌, inl, inr}
use native.Mathlib.Nat.{lt_of_le_of_lt, lt_of_not-le, not-le_of_lt}
use mathlib.Core.Bool.{Bool, true, false, not, ◌&&◌, true≢false, false≢true}
use lib.Dec.{T, ltb, eqb, ltb→lt, lt→ltb, nltb→le, eqb→eq}
use lib.Ieee.{Float, nan, inf, fin, up, down, lt, le, eq}
use lib.Ieee.Bits.{is_true}
use lib.Ieee.Fits.{and_l, and_i, eq→eqb}
use lib.Ieee.Positive.{num, den, positive, first_pos}
use Rattle.rounding.proofs.Order.{or_left}
use Rattle.rounding.proofs.FromZero.{nonneg, unsigned, nonneg_below, cross_of_le, le_of_cross}

-- ---- a test that was taken or left
pub holds : (b : Bool) → b ≡ true → T b
holds b e = subst T (sym e) tt

pub fails : (b : Bool) → b ≡ false → T (not b)
fails b e = subst (λ (x : Bool). T (not x)) (sym e) tt

pub clash : (b : Bool) → T b → b ≡ false → ⊥
clash true t e = true≢false e
clash false t e = t

module _ (x y : Float) (p : T (nonneg x)) (q : T (nonneg y)) where
  pub le_true : le x y ≡ true → num x * den y ≤ num y * den x
  le_true e = cross_of_le x y p q (holds (le x y) e)

  pub le_false : le x y ≡ false → num y * den x < num x * den y
  le_false e = lt_of_not-le (λ (h : num x * den y ≤ num y * den x). clash (le x y) (le_of_cross x y p q h) e)

  pub le_is_true : num x * den y ≤ num y * den x → le x y ≡ true
  le_is_true h = is_true (le x y) (le_of_cross x y p q h)

-- ---- `<`
lt_is : (x y : Float) → T (nonneg x) → T (nonneg y) → lt x y ≡ ltb (num x * den y) (num y * den x)
unfolding lt
lt_is nan y p q = absurd p
lt_is (inf s) y p q = absurd p
lt_is (fin true m e) y p q = absurd p
lt_is (fin false m e) nan p q = absurd q
lt_is (fin false m e) (inf s) p q = absurd q
lt_is (fin false m e) (fin true n d) p q = absurd q
lt_is (fin false m e) (fin false n d) p q = refl

module _ (x y : Float) (p : T (nonneg x)) (q : T (nonneg y)) where
  pub lt_true : lt x y ≡ true → num x * den y < num y * den x
  lt_true e = ltb→lt (num x * den y) (num y * den x) (holds (ltb (num x * den y) (num y * den x)) (sym (lt_is x y p q) ∙ e))

  pub lt_false : lt x y ≡ false → num y * den x ≤ num x * den y
  lt_false e = nltb→le (num x * den y) (num y * den x) (fails (ltb (num x * den y) (num y * den x)) (sym (lt_is x y p q) ∙ e))

  pub lt_is_true : num x * den y < num y * den x → lt x y ≡ true
  lt_is_true h = lt_is x y p q ∙ is_true (ltb (num x * den y) (num y * den x)) (lt→ltb (num x * den y) (num y * den x) h)

-- ---- `==`
eq_is : (x y : Float) → T (nonneg x) → T (nonneg y) → eq x y ≡ (eqb (num x * den y) (num y * den x) && true)
unfolding eq
eq_is nan y p q = absurd p
eq_is (inf s) y p q = absurd p
eq_is (fin true m e) y p q = absurd p
eq_is (fin false m e) nan p q = absurd q
eq_is (fin false m e) (inf s) p q = absurd q
eq_is (fin false m e) (fin true n d) p q = absurd q
eq_is (fin false m e) (fin false n d) p q = refl

module _ (x y : Float) (p : T (nonneg x)) (q : T (nonneg y)) where
  pub eq_true : eq x y ≡ true → num x * den y ≡ num y * den x
  eq_true e = eqb→eq (num x * den y) (num y * den x)
      (and_l (eqb (num x * den y) (num y * den x)) true (holds (eqb (num x * den y) (num y * den x) && true) (sym (eq_is x y p q) ∙ e)))

  pub eq_is_true : num x * den y ≡ num y * den x → eq x y ≡ true
  eq_is_true h = eq_is x y p q ∙ is_true (eqb (num x * den y) (num y * den x) && true) (and_i (eqb (num x * den y) (num y * den x)) true (eq→eqb h) tt)

  pub eq_false : eq x y ≡ false → num x * den y ≡ num y * den x → ⊥
  eq_false e h = true≢false (sym (eq_is_true h) ∙ e)

-- ---- of any two values, `<` implies `<=`
pub le_of_lt : (x y : Float) → lt x y ≡ true → T (le x y)
unfolding le
le_of_lt x y e = or_left (lt x y) (eq x y) (holds (lt x y) e)

-- a value with no minus sign that is below x is not at least x
pub lt_not_le : (x y : Float) → T (nonneg x) → T (unsigned y) → lt y x ≡ true → T (le x y) → ⊥
lt_not_le x y p u h l =
    let q : T (nonneg y) = nonneg_below y x u p (le_of_lt y x h) in
    not-le_of_lt (lt_true y x q p h) (cross_of_le x y p q l)

-- what is above a value with no minus sign is the infinity, or finite and above zero
pub infinite_or_positive : (y x : Float) → T (unsigned y) → lt y x ≡ true → (x ≡ inf false) ⊎ T (positive x)
unfolding lt
infinite_or_positive nan x u t = absurd (false≢true t)
infinite_or_positive (inf true) x u t = absurd u
infinite_or_positive (inf false) nan u t = absurd (false≢true t)
infinite_or_positive (inf false) (inf s) u t = absurd (false≢true t)
infinite_or_positive (inf false) (fin s n d) u t = absurd (false≢true t)
infinite_or_positive (fin true m e) x u t = absurd u
infinite_or_positive (fin false m e) nan u t = absurd (false≢true t)
infinite_or_positive (fin false m e) (inf true) u t = absurd (false≢true t)
infinite_or_positive (fin false m e) (inf false) u t = inl refl
infinite_or_positive (fin false m e) (fin true n d) u t = absurd (false≢true t)
infinite_or_positive (fin false m e) (fin false n d) u t =
    inr (lt→ltb 0 n (first_pos n (up d) (first_pos (n * up d) (down e) (lt_of_le_of_lt zero-le (ltb→lt (m * up e * down d) (n * up d * down e) (holds _ t))))))
