-- The smaller of a double and 1.0 is what `at_most_one` says. std's `min` may give either of two that compare equal, and only 1.0 equals 1.0; where x is a
-- NaN, `min` gives 1.0. Assumes nothing.
use mathlib.Core.Path.{◌≡◌, refl, sym, ap, ◌∙◌, subst}
use mathlib.Core.Logic.{inl, inr}
use Prim.Native.Nat.{ℕ, ◌*◌, ◌<◌}
use native.Mathlib.Nat.{lt_irrefl, one-mul}
use mathlib.Core.Bool.{Bool, true, false, ◌&&◌, ◌||◌, beq, cond, false≢true}
use lib.Dec.{T, eqb, eqb→eq}
use lib.Ieee.{Float, nan, inf, fin, binary64, up, down, of_bits, fits, is_nan, lt, le, eq}
use lib.Ieee.Back.{whole_unique}
use lib.Ieee.Exact.{HasValue}
use lib.Ieee.Fits.{and_l, and_r, down_pos}
use Rattle.std.specs.Float.{IsFloatMin, float_min}
use Rattle.rounding.specs.Doubles.{one, least}
use Rattle.counts.specs.Doubles.{at_most_one}

-- ---- the code's literals

pub one_is : of_bits binary64 0x3ff0_0000_0000_0000 ≡ one
unfolding of_bits
one_is = refl

pub least_is : of_bits binary64 0x3f70_0000_0000_0000 ≡ least
unfolding of_bits
least_is = refl

-- ---- what equals 1.0

same_sign : (s : Bool) (a b : ℕ) → 0 < b → a ≡ b → T (beq s false || eqb a 0) → s ≡ false
same_sign false a b p e h = refl
same_sign true a b p e h = absurd (lt_irrefl 0 (subst (λ (n : ℕ). 0 < n) (sym e ∙ eqb→eq a 0 h) p))

value_one : (x : Float) → eq x one ≡ true → HasValue x false 1 1
unfolding eq
value_one nan h = absurd (false≢true h)
value_one (inf s) h = absurd (false≢true h)
value_one (fin s m e) h =
    let a = m * up e * 1 in
    let b = 1 * down e in
    let t : T (eqb a b && (beq s false || eqb a 0)) = subst T (sym h) tt in
    let k : a ≡ b = eqb→eq a b (and_l _ _ t) in
    (same_sign s a b (subst (λ (n : ℕ). 0 < n) (sym (one-mul (down e))) (down_pos e)) k (and_r _ _ t), k)

equals_one : (x : Float) → T (fits binary64 x) → eq x one ≡ true → x ≡ one
unfolding fits
equals_one x f h = whole_unique binary64 x one false 1 f tt (value_one x h) (refl, refl)

-- ---- the smaller

no_more : (x : Float) → eq x one ≡ false → float_min x one ≡ at_most_one x
unfolding le is_nan
no_more x h = rw h (go (lt x one))
  where
    go : (b : Bool) → cond ((b || false) || false) x one ≡ cond b x one
    go true = refl
    go false = refl

either : (b : Bool) (x : Float) → cond b x x ≡ x
either true x = refl
either false x = refl

of_one : (r : Float) → IsFloatMin one one r → r ≡ at_most_one one
of_one r (inl e) = e ∙ either _ one ∙ sym (either _ one)
of_one r (inr e) = e ∙ either _ one ∙ sym (either _ one)

pub smaller_is : (x r : Float) → T (fits binary64 x) → IsFloatMin x one r → (eq x one ≡ false → r ≡ float_min x one) → r ≡ at_most_one x
smaller_is x r f k h = go (eq x one) refl
  where
    go : (b : Bool) → eq x one ≡ b → r ≡ at_most_one x
    go true e =
        let i = equals_one x f e in
        of_one r (subst (λ (v : Float). IsFloatMin v one r) i k) ∙ ap at_most_one (sym i)
    go false e = h e ∙ no_more x e
