-- How far `power_of t n` is from the exact n-th power of t = a / c, a double from 0 to 1: off by a factor (1 + 2 ^ -53) ^ n at most. From above this
-- holds of the larger of the power and
-- 1/256, so that no underflow matters; from below where the power is 1/128 at least. Each product carries the errors of its factors and one of its
-- own (`product`). Assumes nothing.
use mathlib.Core.Path.{◌≡◌, refl, sym, ap, ◌∙◌, subst}
use Prim.Native.Nat.{ℕ, zero, suc, ◌+◌, ◌-◌, ◌*◌, ◌/◌, ◌%◌, ◌^◌, ◌≤◌, ◌<◌}
use native.Mathlib.Nat.{le_trans, le_of_eq, zero-lt-suc, mul_comm, add_comm, mul-le-mul, mul-le-mul_left, pow-zero, pow-le-pow_left}
use native.Mathlib.Nat.{pow-succ', le_of_mul-le-mul_right}
use native.Mathlib.Omega.{arith}
use mathlib.Core.Bool.{Bool, true, false, not, cond}
use borrow.Author.Tests.{eqb-true, eqb-false}
use lib.Dec.{T, leb, eqb, leb→le, nleb→lt, lit≤}
use lib.Pow.{pow-add}
use lib.Ieee.{Float, Format, binary32, binary64, prec, low, mul, size}
use lib.Ieee.Digits.{size-lt}
use lib.Ieee.Exact.{HasValue}
use lib.Ieee.Positive.{num, den, value→cross}
use lib.Ieee.Order.{le_of_values}
use Rattle.rounding.proofs.Powers.{pow_one, pow_above}
use Rattle.rounding.proofs.Factors.{Under, under_le, under_trans}
use Rattle.rounding.proofs.FromZero.{nonneg_of_value, unsigned_of_nonneg}
use Rattle.rounding.proofs.RelativeError.{normal_from}
use Rattle.rounding.proofs.Products.{product_under, product_over}
use Rattle.power.specs.Power.{one, times_in, power_of}
use Rattle.power.proofs.Unit.{Unit, unit_of, unit_one, unit_mul}

-- ---- the larger of α / γ and 1/256
abbrev top : ℕ → ℕ → ℕ
top α γ = cond (leb γ (256 * α)) α 1

abbrev bottom : ℕ → ℕ → ℕ
bottom α γ = cond (leb γ (256 * α)) γ 256

pub record Cover (α γ r s : ℕ) : Type 0 where
  pub above_zero : 0 < s
  pub to_one : r ≤ s
  pub from_least : s ≤ 256 * r
  pub from_power : α * s ≤ r * γ

cover : (α γ : ℕ) → 0 < γ → α ≤ γ → Cover α γ (top α γ) (bottom α γ)
cover α γ G h = go (leb γ (256 * α)) (leb→le γ (256 * α)) (nleb→lt γ (256 * α))
  where
    go : (b : Bool) → (T b → γ ≤ 256 * α) → (T (not b) → 256 * α < γ) → Cover α γ (cond b α 1) (cond b γ 256)
    go true g k = record { above_zero = G; to_one = h; from_least = g tt; from_power = le_of_eq refl }
    go false g k = let l : 256 * α < γ = k tt in record { above_zero = lit≤ tt; to_one = lit≤ tt; from_least = lit≤ tt; from_power = omega arith }

-- what covers a product covers the product of what covers its factors
product_cover : (α γ β δ r s : ℕ) → 0 < δ → α ≤ γ → β ≤ δ → Cover (α * β) (γ * δ) r s → top α γ * top β δ * s ≤ r * (bottom α γ * bottom β δ)
product_cover α γ β δ r s D h k c = go (leb γ (256 * α)) (leb δ (256 * β)) (cover β δ D k).to_one
  where
    go : (b d : Bool) → cond d β 1 ≤ cond d δ 256 → cond b α 1 * cond d β 1 * s ≤ r * (cond b γ 256 * cond d δ 256)
    go true true l = c.from_power
    go true false l = omega (arith, mul-le-mul h c.from_least)
    go false true l = omega (arith, mul-le-mul k c.from_least)
    go false false l = omega (arith, c.from_least)

-- ---- fractions from 1/256 up are in the normal range
far : (f : Format) → prec f - 1 + 8 ≤ low f
far binary32 = lit≤ tt
far binary64 = lit≤ tt

normal : (f : Format) (r s : ℕ) → s ≤ 256 * r → 2 ^ (prec f - 1) * s ≤ r * 2 ^ low f
normal f r s h = normal_from f r s 8 (le_trans h (le_of_eq (mul_comm 256 r))) (far f)

half_normal : (f : Format) (r s : ℕ) → s ≤ 128 * r → 2 ^ (prec f - 1) * (s * 2) ≤ r * 2 ^ low f
half_normal f r s h = normal f r (s * 2) (omega arith)

-- ---- t = a / c
module _ (t : Float) (a c : ℕ) (A : 0 < a) (C : 0 < c) (v : HasValue t false a c) (l : a ≤ c) where
  abbrev K : ℕ
  K = 2 ^ prec binary64

  -- R j / S j is the larger of t ^ j and 1/256
  abbrev R : ℕ → ℕ
  R j = top (a ^ j) (c ^ j)

  abbrev S : ℕ → ℕ
  S j = bottom (a ^ j) (c ^ j)

  covered : (j : ℕ) → Cover (a ^ j) (c ^ j) (R j) (S j)
  covered j = cover (a ^ j) (c ^ j) (pow_above j C) (pow-le-pow_left l j)

  -- x is t ^ j but for E roundings, if these are few
  pub record Near (x : Float) (j E : ℕ) : Type 0 where
    pub in_unit : Unit x
    pub above : E + E ≤ K → Under K E (num x) (den x) (R j) (S j)
    pub below : E + E ≤ K → c ^ j ≤ 128 * a ^ j → Under K E (a ^ j) (c ^ j) (num x) (den x)

  -- a smaller exponent gives no smaller power
  still_large : (i k : ℕ) → c ^ (i + k) ≤ 128 * a ^ (i + k) → c ^ i ≤ 128 * a ^ i
  still_large i k h =
      le_of_mul-le-mul_right
      (le_trans (le_of_eq (sym (pow-add c i k)))
      (le_trans h (le_trans (mul-le-mul_left 128 (le_trans (le_of_eq (pow-add a i k)) (mul-le-mul_left (a ^ i) (pow-le-pow_left l k))))
      (le_of_eq (turn (a ^ i) (c ^ k))))))
      (pow_above k C)
    where
      turn : (x y : ℕ) → 128 * (x * y) ≡ 128 * x * y
      turn x y = omega arith

  product : (x y : Float) (i j E F : ℕ) → Near x i E → Near y j F → Near (mul binary64 x y) (i + j) (E + F + 1)
  product x y i j E F p q = record {
    in_unit = u;
    above = λ g.
        let w = covered (i + j) in
        product_under binary64 x y p.in_unit.finite q.in_unit.finite E F (R i) (S i) (R j) (S j) (R (i + j)) (S (i + j))
        (covered i).above_zero (covered j).above_zero w.above_zero w.to_one (both g)
        (normal binary64 (R (i + j)) (S (i + j)) w.from_least)
        (product_cover (a ^ i) (c ^ i) (a ^ j) (c ^ j) (R (i + j)) (S (i + j)) (pow_above j C) (pow-le-pow_left l i) (pow-le-pow_left l j) (split w))
        (p.above (first g)) (q.above (second g));
    below = λ g h.
        product_over binary64 x y p.in_unit.finite q.in_unit.finite E F (a ^ i) (c ^ i) (a ^ j) (c ^ j) (a ^ (i + j)) (c ^ (i + j))
        (pow_above i C) (pow_above j C) (pow_above (i + j) C)
        (pow-le-pow_left l (i + j)) (both g) (half_normal binary64 (a ^ (i + j)) (c ^ (i + j)) h) (le_of_eq (rw (pow-add a i j, pow-add c i j)))
        (p.below (first g) (still_large i j h)) (q.below (second g) (still_large j i (subst (λ (k : ℕ). c ^ k ≤ 128 * a ^ k) (add_comm i j) h))) u.finite;
  }
    where
      u : Unit (mul binary64 x y)
      u = unit_mul x y p.in_unit q.in_unit

      both : E + F + 1 + (E + F + 1) ≤ K → E + F + (E + F) ≤ K
      both g = omega arith

      first : E + F + 1 + (E + F + 1) ≤ K → E + E ≤ K
      first g = omega arith

      second : E + F + 1 + (E + F + 1) ≤ K → F + F ≤ K
      second g = omega arith

      split : Cover (a ^ (i + j)) (c ^ (i + j)) (R (i + j)) (S (i + j)) → Cover (a ^ i * a ^ j) (c ^ i * c ^ j) (R (i + j)) (S (i + j))
      split w = record {
        above_zero = w.above_zero;
        to_one = w.to_one;
        from_least = w.from_least;
        from_power =
            subst (λ (z : ℕ). z * S (i + j) ≤ R (i + j) * (c ^ i * c ^ j)) (pow-add a i j)
            (subst (λ (z : ℕ). a ^ (i + j) * S (i + j) ≤ R (i + j) * z) (pow-add c i j) w.from_power);
      }

  -- ---- the first values
  near_one : Near one 0 0
  near_one = record {
    in_unit = unit_one;
    above = λ g. under_le K 1 1 (R 0) (S 0)
        (subst (λ (z : ℕ). z * S 0 ≤ R 0 * 1) (pow-zero a) (subst (λ (z : ℕ). a ^ 0 * S 0 ≤ R 0 * z) (pow-zero c) (covered 0).from_power));
    below = λ g h. under_le K (a ^ 0) (c ^ 0) 1 1 (le_of_eq (rw (pow-zero a, pow-zero c)));
  }

  near_base : Near t 1 0
  near_base = record {
    in_unit = unit_of t (unsigned_of_nonneg t (nonneg_of_value t a c v)) (le_of_values t one a c 1 1 C (zero-lt-suc 0) v (refl, refl) (omega (arith, l)));
    above = λ g. under_trans K 0 0 (num t) (den t) a c (R 1) (S 1) C (under_le K (num t) (den t) a c (le_of_eq cross))
        (under_le K a c (R 1) (S 1)
        (subst (λ (z : ℕ). z * S 1 ≤ R 1 * c) (pow_one a) (subst (λ (z : ℕ). a ^ 1 * S 1 ≤ R 1 * z) (pow_one c) (covered 1).from_power)));
    below = λ g h. under_le K (a ^ 1) (c ^ 1) (num t) (den t)
        (le_of_eq (ap (λ (z : ℕ). z * den t) (pow_one a) ∙ sym cross ∙ ap (λ (z : ℕ). num t * z) (sym (pow_one c))));
  }
    where
      cross : num t * c ≡ a * den t
      cross = value→cross t a c v

  -- ---- y is t ^ m, and x is t ^ e, whose roundings are e - 1
  at : {x : Float} (i j E F : ℕ) → i ≡ j → E ≡ F → Near x i E → Near x j F
  at {x} i j E F e g h = subst (λ (z : ℕ). Near x z F) e (subst (Near x i) g h)

  taken : (b : Bool) (y x : Float) (m e : ℕ) → 0 < e → Near y m m → Near x e (e - 1) → Near (cond b (mul binary64 y x) y) (cond b (m + e) m) (cond b (m + e) m)
  taken true y x m e s p q = at (m + e) (m + e) (m + (e - 1) + 1) (m + e) refl (omega arith) (product y x m e m (e - 1) p q)
  taken false y x m e s p q = p

  near_times : (d : ℕ) (y x : Float) (n m e : ℕ) → n < 2 ^ d → 0 < e → Near y m m → Near x e (e - 1) → Near (times_in d y x n) (m + e * n) (m + e * n)
  unfolding times_in
  near_times zero y x n m e h s p q = at m (m + e * n) m (m + e * n) (none n h) (none n h) p
    where
      none : (n : ℕ) → n < 1 → m ≡ m + e * n
      none n h = let z : n ≡ 0 = omega arith in omega (arith, ap (λ (k : ℕ). e * k) z)
  near_times (suc d) y x n m e h s p q =
      let b = eqb (n % 2) 1 in
      let k = cond b (m + e) m in
      at (k + (e + e) * (n / 2)) (m + e * n) (k + (e + e) * (n / 2)) (m + e * n) (exponent b (eqb-true (n % 2) 1) (eqb-false (n % 2) 1))
      (exponent b (eqb-true (n % 2) 1) (eqb-false (n % 2) 1))
      (near_times d (cond b (mul binary64 y x) y) (mul binary64 x x) (n / 2) k (e + e)
      (shorter n (2 ^ d) (subst (λ (z : ℕ). n < z) (pow-succ' 2 d) h)) (omega arith) (taken b y x m e s p q)
      (at (e + e) (e + e) (e - 1 + (e - 1) + 1) (e + e - 1) refl (omega arith) (product x x e e (e - 1) (e - 1) q q)))
    where
      shorter : (n w : ℕ) → n < 2 * w → n / 2 < w
      shorter n w h = omega arith

      exponent : (b : Bool) → (b ≡ true → n % 2 ≡ 1) → (b ≡ false → n % 2 ≡ 1 → ⊥) → cond b (m + e) m + (e + e) * (n / 2) ≡ m + e * n
      exponent true g k = let o : n / 2 + n / 2 + 1 ≡ n = odd n (g refl) in omega (arith, ap (λ (z : ℕ). e * z) o)
        where
          odd : (n : ℕ) → n % 2 ≡ 1 → n / 2 + n / 2 + 1 ≡ n
          odd n h = omega arith
      exponent false g k = let o : n / 2 + n / 2 ≡ n = even n (k refl) in omega (arith, ap (λ (z : ℕ). e * z) o)
        where
          even : (n : ℕ) → (n % 2 ≡ 1 → ⊥) → n / 2 + n / 2 ≡ n
          even n h = omega arith

  pub power_near : (n : ℕ) → Near (power_of t n) n n
  unfolding power_of
  power_near n = at (0 + 1 * n) n (0 + 1 * n) n (omega arith) (omega arith) (near_times (size n) one t n 0 1 (size-lt n) (zero-lt-suc 0) near_one near_base)
