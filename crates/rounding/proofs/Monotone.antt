-- Rounding keeps the order, and never passes a value that the format holds; so the four operations keep the order of finite values not below zero.
-- Assumes nothing.
use mathlib.Core.Path.{◌≡◌, ◌∙◌, subst}
use Prim.Native.Nat.{ℕ, ◌+◌, ◌-◌, ◌*◌, ◌≤◌, ◌<◌}
use native.Mathlib.Nat.{mul-pos, mul_comm, mul-sub, mul-le-mul, mul-le-mul_right}
use native.Mathlib.Omega.{arith}
use mathlib.Core.Bool.{false}
use lib.Dec.{T}
use lib.Ieee.{Float, Format, round, add, sub, mul, div, fits, le}
use lib.Ieee.Exact.{HasValue}
use lib.Ieee.Order.{round_mono}
use lib.Ieee.Positive.{num, den, positive, den_pos, value_pos, own_value}
use Rattle.rounding.proofs.Order.{le_chain}
use Rattle.rounding.proofs.FromZero.{nonneg, nonneg_of_value, nonneg_below, round_unsigned, cross_of_le}
use Rattle.rounding.proofs.Operations.{mul_is, add_is, sub_is, div_is}
use Rattle.rounding.proofs.Unique.{round_fit}

-- ---- a / c against the value y = b / d that the format holds
module _ (f : Format) (a c b d : ℕ) (y : Float) (C : 0 < c) (D : 0 < d) (t : T (fits f y)) (w : HasValue y false b d) where
  pub round_to : a * d ≤ b * c → T (le (round f false a c) y)
  round_to h = subst (λ (z : Float). T (le (round f false a c) z)) (round_fit f y b d t D w) (round_mono f a c b d C D h)

  pub round_from : b * c ≤ a * d → T (le y (round f false a c))
  round_from h = subst (λ (z : Float). T (le z (round f false a c))) (round_fit f y b d t D w) (round_mono f b d a c D C h)

  -- so what is at most y rounds to a finite value
  pub round_finite : a * d ≤ b * c → T (nonneg (round f false a c))
  round_finite h = nonneg_below (round f false a c) y (round_unsigned f a c) (nonneg_of_value y b d w) (round_to h)

-- ---- x ≤ x' and y ≤ y'
both : (f : Format) (u v : Float) (a c b d : ℕ) → 0 < c → 0 < d → u ≡ round f false a c → v ≡ round f false b d → a * d ≤ b * c → T (le u v)
both f u v a c b d C D e g h = rw (e, g) (round_mono f a c b d C D h)

module _ (f : Format) (x x' y y' : Float) (p : T (nonneg x)) (p' : T (nonneg x')) (q : T (nonneg y)) (q' : T (nonneg y')) (h : T (le x x'))
    (k : T (le y y')) where
  hx : num x * den x' ≤ num x' * den x
  hx = cross_of_le x x' p p' h

  hy : num y * den y' ≤ num y' * den y
  hy = cross_of_le y y' q q' k

  D : 0 < den x * den y
  D = mul-pos (den_pos x) (den_pos y)

  D' : 0 < den x' * den y'
  D' = mul-pos (den_pos x') (den_pos y')

  pub mul_keeps : T (le (mul f x y) (mul f x' y'))
  mul_keeps = both f (mul f x y) (mul f x' y') (num x * num y) (den x * den y) (num x' * num y') (den x' * den y') D D' (mul_is f x y p q)
      (mul_is f x' y' p' q') (go (num x) (den x) (num x') (den x') (num y) (den y) (num y') (den y') hx hy)
    where
      go : (n d n' d' m e m' e' : ℕ) → n * d' ≤ n' * d → m * e' ≤ m' * e → n * m * (d' * e') ≤ n' * m' * (d * e)
      go n d n' d' m e m' e' h k = omega (arith, mul-le-mul h k)

  pub add_keeps : T (le (add f x y) (add f x' y'))
  add_keeps =
      both f (add f x y) (add f x' y') (num x * den y + num y * den x) (den x * den y) (num x' * den y' + num y' * den x') (den x' * den y') D D'
      (add_is f x y p q) (add_is f x' y' p' q')
      (go (num x) (den x) (num x') (den x') (num y) (den y) (num y') (den y') hx hy)
    where
      go : (n d n' d' m e m' e' : ℕ) → n * d' ≤ n' * d → m * e' ≤ m' * e → (n * e + m * d) * (d' * e') ≤ (n' * e' + m' * d') * (d * e)
      go n d n' d' m e m' e' h k = omega (arith, mul-le-mul_right (e * e') h, mul-le-mul_right (d * d') k)

  -- x / y' ≤ x' / y
  pub div_keeps : T (positive y) → T (positive y') → T (le (div f x y') (div f x' y))
  div_keeps t t' =
      both f (div f x y') (div f x' y) (num x * den y') (num y' * den x) (num x' * den y) (num y * den x')
      (mul-pos (value_pos y' (num y') (den y') t' (den_pos y') (own_value y' t')) (den_pos x))
      (mul-pos (value_pos y (num y) (den y) t (den_pos y) (own_value y t)) (den_pos x'))
      (div_is f x y' p t') (div_is f x' y p' t) (go (num x) (den x) (num x') (den x') (num y) (den y) (num y') (den y') hx hy)
    where
      go : (n d n' d' m e m' e' : ℕ) → n * d' ≤ n' * d → m * e' ≤ m' * e → n * e' * (m * d') ≤ n' * e * (m' * d)
      go n d n' d' m e m' e' h k = omega (arith, mul-le-mul h k)

  -- x - y' ≤ x' - y, where y' ≤ x
  pub sub_keeps : T (le y' x) → T (le (sub f x y') (sub f x' y))
  sub_keeps l =
      both f (sub f x y') (sub f x' y) (num x * den y' - num y' * den x) (den x * den y') (num x' * den y - num y * den x') (den x' * den y)
      (mul-pos (den_pos x) (den_pos y')) (mul-pos (den_pos x') (den_pos y))
      (sub_is f x y' p q' l) (sub_is f x' y p' q (le_chain y x x' (le_chain y y' x k l) h))
      (go (num x) (den x) (num x') (den x') (num y) (den y) (num y') (den y') hx hy)
    where
      less : (k a b : ℕ) → (a - b) * k ≡ k * a - k * b
      less k a b = mul_comm (a - b) k ∙ mul-sub k a b

      shrink : (a b a' b' : ℕ) → a ≤ a' → b' ≤ b → a - b ≤ a' - b'
      shrink a b a' b' h k = omega arith

      go : (n d n' d' m e m' e' : ℕ) → n * d' ≤ n' * d → m * e' ≤ m' * e → (n * e' - m' * d) * (d' * e) ≤ (n' * e - m * d') * (d * e')
      go n d n' d' m e m' e' h k =
          rw (less (d' * e) (n * e') (m' * d), less (d * e') (n' * e) (m * d'))
          (shrink (d' * e * (n * e')) (d' * e * (m' * d)) (d * e' * (n' * e)) (d * e' * (m * d')) (omega (arith, mul-le-mul_right (e * e') h))
          (omega (arith, mul-le-mul_right (d * d') k)))
