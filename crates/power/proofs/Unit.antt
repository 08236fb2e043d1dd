-- Powers of doubles from 0 to 1 are from 0 to 1 and in the order of their bases: rounding keeps the order, and 1 is a double. Assumes nothing.
use mathlib.Core.Path.{◌≡◌, refl, subst}
use Prim.Native.Nat.{ℕ, zero, suc, ◌/◌, ◌%◌}
use mathlib.Core.Bool.{Bool, true, false, cond}
use lib.Dec.{T, eqb}
use lib.Ieee.{Float, binary64, mul, le, size}
use Rattle.rounding.proofs.FromZero.{zero as +0, unsigned, unsigned_of_nonneg, nonneg_below, le_self, zero_le_nonneg, mul_unsigned}
use Rattle.rounding.proofs.Ranges.{Between}
use Rattle.rounding.proofs.Monotone.{mul_keeps}
use Rattle.power.specs.Power.{one, times_in, power_of}

-- from 0 to 1
abbrev pub Unit : Float → Type 0
Unit x = Between +0 x one

pub unit_of : (x : Float) → T (unsigned x) → T (le x one) → Unit x
unit_of x u h = let p = nonneg_below x one u tt h in record { finite = p; from = zero_le_nonneg x p; to = h }

pub unit_one : Unit one
unit_one = unit_of one tt (le_self one tt)

-- ---- products
product_keeps : (x x' y y' : Float) → Unit x → Unit x' → Unit y → Unit y' → T (le x x') → T (le y y') → T (le (mul binary64 x y) (mul binary64 x' y'))
product_keeps x x' y y' p p' q q' h k = mul_keeps binary64 x x' y y' p.finite p'.finite q.finite q'.finite h k

one_squared : mul binary64 one one ≡ one
unfolding mul
one_squared = refl

pub unit_mul : (x y : Float) → Unit x → Unit y → Unit (mul binary64 x y)
unit_mul x y p q =
    unit_of (mul binary64 x y) (mul_unsigned binary64 x y (unsigned_of_nonneg x p.finite) (unsigned_of_nonneg y q.finite))
    (subst (λ (z : Float). T (le (mul binary64 x y) z)) one_squared (product_keeps x one y one p unit_one q unit_one p.to q.to))

-- ---- powers
taken : (b : Bool) (y x : Float) → Unit y → Unit x → Unit (cond b (mul binary64 y x) y)
taken true y x p q = unit_mul y x p q
taken false y x p q = p

times_in_unit : (d : ℕ) (y x : Float) (n : ℕ) → Unit y → Unit x → Unit (times_in d y x n)
unfolding times_in
times_in_unit zero y x n p q = p
times_in_unit (suc d) y x n p q =
    times_in_unit d (cond (eqb (n % 2) 1) (mul binary64 y x) y) (mul binary64 x x) (n / 2) (taken (eqb (n % 2) 1) y x p q) (unit_mul x x q q)

-- 0 ≤ x ≤ 1 gives 0 ≤ x ^ n ≤ 1
pub power_in_unit : (x : Float) → Unit x → (n : ℕ) → Unit (power_of x n)
unfolding power_of
power_in_unit x p n = times_in_unit (size n) one x n unit_one p

taken_keeps : (b : Bool) (y y' x x' : Float) → Unit y → Unit y' → Unit x → Unit x' → T (le y y') → T (le x x') →
    T (le (cond b (mul binary64 y x) y) (cond b (mul binary64 y' x') y'))
taken_keeps true y y' x x' p p' q q' h k = product_keeps y y' x x' p p' q q' h k
taken_keeps false y y' x x' p p' q q' h k = h

times_keeps : (d : ℕ) (y y' x x' : Float) (n : ℕ) → Unit y → Unit y' → Unit x → Unit x' → T (le y y') → T (le x x') →
    T (le (times_in d y x n) (times_in d y' x' n))
unfolding times_in
times_keeps zero y y' x x' n p p' q q' h k = h
times_keeps (suc d) y y' x x' n p p' q q' h k =
    let b = eqb (n % 2) 1 in
    times_keeps d (cond b (mul binary64 y x) y) (cond b (mul binary64 y' x') y') (mul binary64 x x) (mul binary64 x' x') (n / 2) (taken b y x p q)
    (taken b y' x' p' q') (unit_mul x x q q) (unit_mul x' x' q' q')
    (taken_keeps b y y' x x' p p' q q' h k) (product_keeps x x' x x' q q' q q' k k)

-- 0 ≤ x ≤ y ≤ 1 gives x ^ n ≤ y ^ n
pub power_keeps : (x y : Float) → Unit x → Unit y → T (le x y) → (n : ℕ) → T (le (power_of x n) (power_of y n))
unfolding power_of
power_keeps x y p q h n = times_keeps (size n) one one x y n unit_one unit_one p q (le_self one tt) h
