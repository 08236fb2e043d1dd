-- The error of a product of values that carry errors already, for chains of products such as a power: the exponents of the factors (1 + 2 ^ -prec)
-- add up, and one more is for this rounding.
-- `product_under` bounds a product from above by any fraction r / s in the normal range, however small the product is; `product_over` bounds it from
-- below. Assumes nothing.
use mathlib.Core.Path.{◌≡◌, sym, subst}
use Prim.Native.Nat.{ℕ, suc, ◌+◌, ◌-◌, ◌*◌, ◌^◌, ◌≤◌, ◌<◌}
use native.Mathlib.Nat.{le_trans, mul-le-mul, mul-le-mul_left, mul-le-mul_right, mul-pos, pow-le-pow_left}
use native.Mathlib.Omega.{arith}
use mathlib.Core.Bool.{false}
use lib.Dec.{T, lit≤}
use lib.Pow.{pow-add, pow_pos}
use lib.Ieee.{Float, Format, binary32, binary64, prec, emax, low, round, mul}
use lib.Ieee.Order.{round_mono}
use lib.Ieee.Positive.{num, den, den_pos}
use Rattle.rounding.proofs.Powers.{pow_above, at_most_two}
use Rattle.rounding.proofs.Factors.{Under, under_le, under_one, under_trans, under_mul}
use Rattle.rounding.proofs.FromZero.{nonneg, nonneg_of_positive, nonneg_below, round_unsigned, cross_of_le}
use Rattle.rounding.proofs.Operations.{mul_is}
use Rattle.rounding.proofs.RelativeError.{Rounded, round_near}

-- ---- a rounded a / c against a fraction r / s in the normal range that is no smaller, or no larger
module _ (f : Format) (a c r s : ℕ) (C : 0 < c) (S : 0 < s) (N : 2 ^ (prec f - 1) * s ≤ r * 2 ^ low f) (O : r ≤ 2 ^ emax f * s) where
  abbrev z : Float
  z = round f false a c

  abbrev w : Float
  w = round f false r s

  near : Rounded f w r s
  near = round_near f r s S N O

  pub finite_under : a * s ≤ r * c → T (nonneg z)
  finite_under h = nonneg_below z w (round_unsigned f a c) (nonneg_of_positive w near.above_zero) (round_mono f a c r s C S h)

  pub round_under : a * s ≤ r * c → Under (2 ^ prec f) 1 (num z) (den z) r s
  round_under h =
      under_trans (2 ^ prec f) 0 1 (num z) (den z) (num w) (den w) r s (den_pos w)
      (under_le (2 ^ prec f) (num z) (den z) (num w) (den w)
      (cross_of_le z w (finite_under h) (nonneg_of_positive w near.above_zero) (round_mono f a c r s C S h)))
      (under_one (2 ^ prec f) (num w) (den w) r s near.up_to)

  pub round_over : T (nonneg z) → r * c ≤ a * s → Under (2 ^ prec f) 1 r s (num z) (den z)
  round_over p h =
      under_trans (2 ^ prec f) 1 0 r s (num w) (den w) (num z) (den z) (den_pos w) (under_one (2 ^ prec f) r s (num w) (den w) near.down_to)
      (under_le (2 ^ prec f) (num w) (den w) (num z) (den z) (cross_of_le w z (nonneg_of_positive w near.above_zero) p (round_mono f r s a c S C h)))

-- ---- the product of x and y, whose errors have the exponents E and F
two_top : (f : Format) → 2 ≤ 2 ^ emax f
two_top binary32 = lit≤ tt
two_top binary64 = lit≤ tt

next : (k : ℕ) → k ≤ suc k
next k = omega arith

module _ (f : Format) (x y : Float) (p : T (nonneg x)) (q : T (nonneg y)) (E F r₁ s₁ r₂ s₂ r s : ℕ) (S₁ : 0 < s₁) (S₂ : 0 < s₂) (S : 0 < s)
    (below : r ≤ s) (G : E + F + (E + F) ≤ 2 ^ prec f) where
  abbrev K : ℕ
  K = 2 ^ prec f

  abbrev a : ℕ
  a = num x * num y

  abbrev c : ℕ
  c = den x * den y

  C : 0 < c
  C = mul-pos (den_pos x) (den_pos y)

  up_pos : 0 < suc K ^ (E + F)
  up_pos = pow_above (E + F) (zero_lt K)
    where
      zero_lt : (k : ℕ) → 0 < suc k
      zero_lt k = omega arith

  down_pos : 0 < K ^ (E + F)
  down_pos = pow_above (E + F) (pow_pos (prec f))

  twice : suc K ^ (E + F) ≤ 2 * K ^ (E + F)
  twice = at_most_two K (E + F) (pow_pos (prec f)) G

  -- with one more rounding
  joined : (A B : ℕ) → A * K ^ (E + F) * K ^ 1 ≤ B * suc K ^ (E + F) * suc K ^ 1 → A * K ^ (E + F + 1) ≤ B * suc K ^ (E + F + 1)
  joined A B h = rw (pow-add K (E + F) 1, pow-add (suc K) (E + F) 1) (turn (K ^ (E + F)) (suc K ^ (E + F)) (K ^ 1) (suc K ^ 1) h)
    where
      turn : (P Q U W : ℕ) → A * P * U ≤ B * Q * W → A * (P * U) ≤ B * (Q * W)
      turn P Q U W h = omega arith

  -- at most r / s, which is in the normal range
  module _ (N : 2 ^ (prec f - 1) * s ≤ r * 2 ^ low f) (h : r₁ * r₂ * s ≤ r * (s₁ * s₂)) (u : Under K E (num x) (den x) r₁ s₁)
      (v : Under K F (num y) (den y) r₂ s₂) where
    exact_under : a * (s * K ^ (E + F)) ≤ r * suc K ^ (E + F) * c
    exact_under =
        turn (K ^ (E + F)) (suc K ^ (E + F))
        (under_add_zero
        (under_trans K (E + F) 0 a c (r₁ * r₂) (s₁ * s₂) r s (mul-pos S₁ S₂) (under_mul K E F (num x) (den x) r₁ s₁ (num y) (den y) r₂ s₂ u v)
        (under_le K (r₁ * r₂) (s₁ * s₂) r s h)))
      where
        none : (n : ℕ) → n + 0 ≡ n
        none n = omega arith

        under_add_zero : Under K (E + F + 0) a c r s → Under K (E + F) a c r s
        under_add_zero t = subst (λ (n : ℕ). Under K n a c r s) (none (E + F)) t

        turn : (P Q : ℕ) → a * s * P ≤ r * c * Q → a * (s * P) ≤ r * Q * c
        turn P Q h = omega arith

    normal : 2 ^ (prec f - 1) * (s * K ^ (E + F)) ≤ r * suc K ^ (E + F) * 2 ^ low f
    normal = turn (2 ^ (prec f - 1)) (2 ^ low f) (K ^ (E + F)) (suc K ^ (E + F)) N (pow-le-pow_left (next K) (E + F))
      where
        turn : (H L P Q : ℕ) → H * s ≤ r * L → P ≤ Q → H * (s * P) ≤ r * Q * L
        turn H L P Q n l = omega (arith, mul-le-mul n l)

    room : r * suc K ^ (E + F) ≤ 2 ^ emax f * (s * K ^ (E + F))
    room = le_trans (mul-le-mul below twice) (le_trans (turn s (K ^ (E + F))) (mul-le-mul_right (s * K ^ (E + F)) (two_top f)))
      where
        turn : (s P : ℕ) → s * (2 * P) ≤ 2 * (s * P)
        turn s P = omega arith

    pub product_finite : T (nonneg (mul f x y))
    product_finite =
        subst (λ (m : Float). T (nonneg m)) (sym (mul_is f x y p q))
        (finite_under f a c (r * suc K ^ (E + F)) (s * K ^ (E + F)) C (mul-pos S down_pos) normal room exact_under)

    pub product_under : Under K (E + F + 1) (num (mul f x y)) (den (mul f x y)) r s
    product_under =
        subst (λ (m : Float). Under K (E + F + 1) (num m) (den m) r s) (sym (mul_is f x y p q))
        (joined (num (round f false a c) * s) (r * den (round f false a c))
        (turn (num (round f false a c)) (den (round f false a c)) (K ^ (E + F)) (suc K ^ (E + F)) (K ^ 1) (suc K ^ 1)
        (round_under f a c (r * suc K ^ (E + F)) (s * K ^ (E + F)) C (mul-pos S down_pos) normal room exact_under)))
      where
        turn : (n d P Q U W : ℕ) → n * (s * P) * U ≤ r * Q * d * W → n * s * P * U ≤ r * d * Q * W
        turn n d P Q U W h = omega arith

  -- at least r / s, half of which is in the normal range
  module _ (N : 2 ^ (prec f - 1) * (s * 2) ≤ r * 2 ^ low f) (h : r * (s₁ * s₂) ≤ r₁ * r₂ * s) (u : Under K E r₁ s₁ (num x) (den x))
      (v : Under K F r₂ s₂ (num y) (den y)) where
    exact_over : r * K ^ (E + F) * c ≤ a * (s * suc K ^ (E + F))
    exact_over =
        turn (K ^ (E + F)) (suc K ^ (E + F))
        (subst (λ (n : ℕ). Under K n r s a c) (none (E + F))
        (under_trans K 0 (E + F) r s (r₁ * r₂) (s₁ * s₂) a c (mul-pos S₁ S₂) (under_le K r s (r₁ * r₂) (s₁ * s₂) h)
        (under_mul K E F r₁ s₁ (num x) (den x) r₂ s₂ (num y) (den y) u v)))
      where
        none : (n : ℕ) → 0 + n ≡ n
        none n = omega arith

        turn : (P Q : ℕ) → r * c * P ≤ a * s * Q → r * P * c ≤ a * (s * Q)
        turn P Q h = omega arith

    normal_over : 2 ^ (prec f - 1) * (s * suc K ^ (E + F)) ≤ r * K ^ (E + F) * 2 ^ low f
    normal_over = turn (2 ^ (prec f - 1)) (2 ^ low f) (K ^ (E + F)) (suc K ^ (E + F)) N twice
      where
        turn : (H L P Q : ℕ) → H * (s * 2) ≤ r * L → Q ≤ 2 * P → H * (s * Q) ≤ r * P * L
        turn H L P Q n l = omega (arith, mul-le-mul_right P n, mul-le-mul_left (H * s) l)

    room_over : r * K ^ (E + F) ≤ 2 ^ emax f * (s * suc K ^ (E + F))
    room_over = le_trans (mul-le-mul below (pow-le-pow_left (next K) (E + F)))
        (le_trans (turn (s * suc K ^ (E + F))) (mul-le-mul_right (s * suc K ^ (E + F)) (two_top f)))
      where
        turn : (n : ℕ) → n ≤ 2 * n
        turn n = omega arith

    pub product_over : T (nonneg (mul f x y)) → Under K (E + F + 1) r s (num (mul f x y)) (den (mul f x y))
    product_over t =
        subst (λ (m : Float). Under K (E + F + 1) r s (num m) (den m)) (sym (mul_is f x y p q))
        (joined (r * den (round f false a c)) (num (round f false a c) * s)
        (turn (num (round f false a c)) (den (round f false a c)) (K ^ (E + F)) (suc K ^ (E + F)) (K ^ 1) (suc K ^ 1)
        (round_over f a c (r * K ^ (E + F)) (s * suc K ^ (E + F)) C (mul-pos S up_pos) normal_over room_over
        (subst (λ (m : Float). T (nonneg m)) (mul_is f x y p q) t) exact_over)))
      where
        turn : (n d P Q U W : ℕ) → r * P * d * U ≤ n * (s * Q) * W → r * d * P * U ≤ n * s * Q * W
        turn n d P Q U W h = omega arith
