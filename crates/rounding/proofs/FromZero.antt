-- The finite values that are not below zero, +0 among them, each as the fraction `num` / `den` of `lib.Ieee.Positive`. Their order is the order of
-- the fractions.
-- And the values with no minus sign, an infinity and a NaN among them, which sums, products and quotients do not leave. Assumes nothing.
use mathlib.Core.Path.{refl, sym, subst}
use Prim.Native.Nat.{ℕ, suc, ◌+◌, ◌*◌, ◌^◌, ◌≤◌, ◌<◌, zero-le}
use native.Mathlib.Nat.{le_refl, zero-mul}
use mathlib.Core.Bool.{Bool, true, false, not, cond}
use lib.IntN.{pos}
use lib.Dec.{T, ltb, eqb, lt→ltb}
use lib.Ieee.{Float, nan, inf, fin, Format, prec, emax, low, units, odd, round, sum, add, mul, div, le}
use lib.Ieee.Fits.{round_is}
use lib.Ieee.Exact.{HasValue, odd_sign}
use lib.Ieee.Order.{drop, kept, transfer, le_of_values}
use lib.Ieee.Positive.{num, den, positive, den_pos, value→cross, first_pos}
use Rattle.rounding.proofs.Order.{lt_or_eq}

-- +0
abbrev pub zero : Float
zero = fin false 0 (pos 0)

-- 1
abbrev pub one : Float
one = fin false 1 (pos 0)

-- finite, and without a minus sign
abbrev pub nonneg : Float → Bool
nonneg nan = false
nonneg (inf s) = false
nonneg (fin s m e) = not s

pub nonneg_of_positive : (x : Float) → T (positive x) → T (nonneg x)
nonneg_of_positive nan p = absurd p
nonneg_of_positive (inf s) p = absurd p
nonneg_of_positive (fin true m e) p = absurd p
nonneg_of_positive (fin false m e) p = tt

pub positive_of_nonneg : (x : Float) → T (nonneg x) → 0 < num x → T (positive x)
positive_of_nonneg nan p h = absurd p
positive_of_nonneg (inf s) p h = absurd p
positive_of_nonneg (fin true m e) p h = absurd p
positive_of_nonneg (fin false m e) p h = lt→ltb 0 m (first_pos m _ h)

pub value_of : (x : Float) → T (nonneg x) → HasValue x false (num x) (den x)
value_of nan p = absurd p
value_of (inf s) p = absurd p
value_of (fin true m e) p = absurd p
value_of (fin false m e) p = (refl, refl)

pub nonneg_of_value : (x : Float) (a c : ℕ) → HasValue x false a c → T (nonneg x)
nonneg_of_value nan a c h = absurd h
nonneg_of_value (inf s) a c h = absurd h
nonneg_of_value (fin s m e) a c h = subst (λ (z : Bool). T (not z)) (sym h.0) tt

-- ---- the order, as one of fractions
pub cross_of_le : (x y : Float) → T (nonneg x) → T (nonneg y) → T (le x y) → num x * den y ≤ num y * den x
unfolding le
cross_of_le nan y p q h = absurd p
cross_of_le (inf s) y p q h = absurd p
cross_of_le (fin true m e) y p q h = absurd p
cross_of_le (fin false m e) nan p q h = absurd q
cross_of_le (fin false m e) (inf t) p q h = absurd q
cross_of_le (fin false m e) (fin true n d) p q h = absurd q
cross_of_le (fin false m e) (fin false n d) p q h = lt_or_eq _ _ h

pub le_of_cross : (x y : Float) → T (nonneg x) → T (nonneg y) → num x * den y ≤ num y * den x → T (le x y)
le_of_cross x y p q h = le_of_values x y (num x) (den x) (num y) (den y) (den_pos x) (den_pos y) (value_of x p) (value_of y q) h

pub le_self : (x : Float) → T (nonneg x) → T (le x x)
le_self x p = le_of_cross x x p p (le_refl (num x * den x))

-- by any fractions that the values equal
pub fractions_of_le : (x y : Float) (a c b d : ℕ) → HasValue x false a c → HasValue y false b d → T (le x y) → a * d ≤ b * c
fractions_of_le x y a c b d v w l =
    transfer a b c d (num x) (num y) (den x) (den y) (den_pos x) (den_pos y) (sym (value→cross x a c v)) (sym (value→cross y b d w))
    (cross_of_le x y (nonneg_of_value x a c v) (nonneg_of_value y b d w) l)

pub zero_le_nonneg : (x : Float) → T (nonneg x) → T (le zero x)
zero_le_nonneg x p = le_of_cross zero x tt p (subst (λ (z : ℕ). z ≤ num x * 1) (sym (zero-mul (den x))) zero-le)

-- what lies below a finite value and has no minus sign is finite
abbrev pub unsigned : Float → Bool
unsigned nan = true
unsigned (inf s) = not s
unsigned (fin s m e) = not s

pub unsigned_of_nonneg : (x : Float) → T (nonneg x) → T (unsigned x)
unsigned_of_nonneg nan p = tt
unsigned_of_nonneg (inf s) p = absurd p
unsigned_of_nonneg (fin s m e) p = p

pub nonneg_below : (x y : Float) → T (unsigned x) → T (nonneg y) → T (le x y) → T (nonneg x)
unfolding le
nonneg_below nan y u q h = absurd h
nonneg_below (inf true) y u q h = absurd u
nonneg_below (inf false) nan u q h = absurd q
nonneg_below (inf false) (inf t) u q h = absurd q
nonneg_below (inf false) (fin t n d) u q h = absurd h
nonneg_below (fin s m e) y u q h = u

-- ---- no minus sign comes of values that have none
pick_unsigned : (b : Bool) (x y : Float) → T (unsigned x) → T (unsigned y) → T (unsigned (cond b x y))
pick_unsigned true x y p q = p
pick_unsigned false x y p q = q

odd_unsigned : (d q k l : ℕ) → T (unsigned (odd d false q k l))
odd_unsigned d q k l = unsigned_of_nonneg (odd d false q k l) (nonneg_of_value (odd d false q k l) (q * 2 ^ k) (2 ^ l) (odd_sign d false q k l))

units_unsigned : (f : Format) (q k : ℕ) → T (unsigned (units f false q k))
unfolding units
units_unsigned f q k =
    pick_unsigned (ltb (q * 2 ^ k) (2 ^ (low f + suc (emax f)))) (odd (suc (prec f)) false q k (low f)) (inf false) (odd_unsigned (suc (prec f)) q k (low f)) tt

pub round_unsigned : (f : Format) (a c : ℕ) → T (unsigned (round f false a c))
round_unsigned f a c =
    subst (λ (z : Float). T (unsigned z)) (sym (round_is f false a c)) (units_unsigned f (kept (prec f) (a * 2 ^ low f) c) (drop (prec f) (a * 2 ^ low f) c))

pub add_unsigned : (f : Format) (x y : Float) → T (unsigned x) → T (unsigned y) → T (unsigned (add f x y))
unfolding add sum
add_unsigned f nan y p q = tt
add_unsigned f (inf true) y p q = absurd p
add_unsigned f (inf false) nan p q = tt
add_unsigned f (inf false) (inf true) p q = absurd q
add_unsigned f (inf false) (inf false) p q = tt
add_unsigned f (inf false) (fin t n d) p q = tt
add_unsigned f (fin true m e) y p q = absurd p
add_unsigned f (fin false m e) nan p q = tt
add_unsigned f (fin false m e) (inf t) p q = q
add_unsigned f (fin false m e) (fin true n d) p q = absurd q
add_unsigned f (fin false m e) (fin false n d) p q = round_unsigned f _ _

pub mul_unsigned : (f : Format) (x y : Float) → T (unsigned x) → T (unsigned y) → T (unsigned (mul f x y))
unfolding mul
mul_unsigned f nan y p q = tt
mul_unsigned f (inf true) y p q = absurd p
mul_unsigned f (inf false) nan p q = tt
mul_unsigned f (inf false) (inf true) p q = absurd q
mul_unsigned f (inf false) (inf false) p q = tt
mul_unsigned f (inf false) (fin true n d) p q = absurd q
mul_unsigned f (inf false) (fin false n d) p q = pick_unsigned (eqb n 0) nan (inf false) tt tt
mul_unsigned f (fin true m e) y p q = absurd p
mul_unsigned f (fin false m e) nan p q = tt
mul_unsigned f (fin false m e) (inf true) p q = absurd q
mul_unsigned f (fin false m e) (inf false) p q = pick_unsigned (eqb m 0) nan (inf false) tt tt
mul_unsigned f (fin false m e) (fin true n d) p q = absurd q
mul_unsigned f (fin false m e) (fin false n d) p q = round_unsigned f _ _

pub div_unsigned : (f : Format) (x y : Float) → T (unsigned x) → T (unsigned y) → T (unsigned (div f x y))
unfolding div
div_unsigned f nan y p q = tt
div_unsigned f (inf true) y p q = absurd p
div_unsigned f (inf false) nan p q = tt
div_unsigned f (inf false) (inf t) p q = tt
div_unsigned f (inf false) (fin true n d) p q = absurd q
div_unsigned f (inf false) (fin false n d) p q = tt
div_unsigned f (fin true m e) y p q = absurd p
div_unsigned f (fin false m e) nan p q = tt
div_unsigned f (fin false m e) (inf true) p q = absurd q
div_unsigned f (fin false m e) (inf false) p q = tt
div_unsigned f (fin false m e) (fin true n d) p q = absurd q
div_unsigned f (fin false m e) (fin false n d) p q =
    pick_unsigned (eqb n 0) (cond (eqb m 0) nan (inf false)) _ (pick_unsigned (eqb m 0) nan (inf false) tt tt) (round_unsigned f _ _)
