-- A sum, difference, product or quotient of finite values not below zero is the exact fraction, rounded once: by the operands' own fractions
-- (`add_is`), or by any fractions that
-- they equal (`add_at`). A difference is of a smaller from a larger value, and a divisor is above zero. Assumes nothing.
use mathlib.Core.Path.{◌≡◌, refl, sym, ap, ◌∙◌}
use Prim.Native.Nat.{ℕ, ◌+◌, ◌-◌, ◌*◌, ◌<◌}
use native.Mathlib.Nat.{mul-pos, mul_comm, mul-sub, not-le_of_lt}
use native.Mathlib.Omega.{arith}
use mathlib.Core.Bool.{true, false, cond}
use lib.Dec.{T, ltb, eqb, ltb→lt, eqb→eq, not_T}
use lib.Ieee.{Float, nan, inf, fin, Format, up, down, round, sum, add, sub, mul, div, le}
use lib.Ieee.Bits.{cond_no}
use lib.Ieee.Exact.{HasValue}
use lib.Ieee.Scale.{round_same}
use lib.Ieee.Positive.{num, den, positive, den_pos, value→cross, value_pos, own_value}
use Rattle.rounding.proofs.FromZero.{nonneg, nonneg_of_value, cross_of_le}

-- ---- by the operands' own fractions
pub mul_is : (f : Format) (x y : Float) → T (nonneg x) → T (nonneg y) → mul f x y ≡ round f false (num x * num y) (den x * den y)
unfolding mul
mul_is f nan y p q = absurd p
mul_is f (inf s) y p q = absurd p
mul_is f (fin true m e) y p q = absurd p
mul_is f (fin false m e) nan p q = absurd q
mul_is f (fin false m e) (inf t) p q = absurd q
mul_is f (fin false m e) (fin true n d) p q = absurd q
mul_is f (fin false m e) (fin false n d) p q = refl

pub add_is : (f : Format) (x y : Float) → T (nonneg x) → T (nonneg y) → add f x y ≡ round f false (num x * den y + num y * den x) (den x * den y)
unfolding add
add_is f nan y p q = absurd p
add_is f (inf s) y p q = absurd p
add_is f (fin true m e) y p q = absurd p
add_is f (fin false m e) nan p q = absurd q
add_is f (fin false m e) (inf t) p q = absurd q
add_is f (fin false m e) (fin true n d) p q = absurd q
add_is f (fin false m e) (fin false n d) p q = unfold sum in refl

pub sub_is : (f : Format) (x y : Float) → T (nonneg x) → T (nonneg y) → T (le y x) → sub f x y ≡ round f false (num x * den y - num y * den x) (den x * den y)
unfolding sub sum
sub_is f nan y p q h = absurd p
sub_is f (inf s) y p q h = absurd p
sub_is f (fin true m e) y p q h = absurd p
sub_is f (fin false m e) nan p q h = absurd q
sub_is f (fin false m e) (inf t) p q h = absurd q
sub_is f (fin false m e) (fin true n d) p q h = absurd q
sub_is f (fin false m e) (fin false n d) p q h =
    let a = m * up e * down d in
    let b = n * up d * down e in
    cond_no (ltb a b) (round f true (b - a) (down e * down d)) (round f false (a - b) (down e * down d))
    (not_T (ltb a b) (λ (t : T (ltb a b)). not-le_of_lt (ltb→lt a b t) (cross_of_le (fin false n d) (fin false m e) q p h)))

pub div_is : (f : Format) (x y : Float) → T (nonneg x) → T (positive y) → div f x y ≡ round f false (num x * den y) (num y * den x)
unfolding div
div_is f nan y p q = absurd p
div_is f (inf s) y p q = absurd p
div_is f (fin true m e) y p q = absurd p
div_is f (fin false m e) nan p q = absurd q
div_is f (fin false m e) (inf t) p q = absurd q
div_is f (fin false m e) (fin true n d) p q = absurd q
div_is f (fin false m e) (fin false n d) p q =
    cond_no (eqb n 0) (cond (eqb m 0) nan (inf false)) (round f false (m * up e * down d) (n * up d * down e))
    (not_T (eqb n 0) (λ (t : T (eqb n 0)). zero_not (ltb→lt 0 n q) (eqb→eq n 0 t)))
  where
    zero_not : 0 < n → n ≡ 0 → ⊥
    zero_not h e = omega arith

-- ---- by any fractions a / c and b / d that the operands equal
module _ (f : Format) (x y : Float) (a c b d : ℕ) (C : 0 < c) (D : 0 < d) (v : HasValue x false a c) (w : HasValue y false b d) where
  p : T (nonneg x)
  p = nonneg_of_value x a c v

  q : T (nonneg y)
  q = nonneg_of_value y b d w

  v' : num x * c ≡ a * den x
  v' = value→cross x a c v

  w' : num y * d ≡ b * den y
  w' = value→cross y b d w

  pub mul_at : mul f x y ≡ round f false (a * b) (c * d)
  mul_at =
      mul_is f x y p q
      ∙ round_same f false (num x * num y) (den x * den y) (a * b) (c * d) (mul-pos (den_pos x) (den_pos y)) (mul-pos C D)
      (go (num x) (den x) (num y) (den y) v' w')
    where
      go : (n e m g : ℕ) → n * c ≡ a * e → m * d ≡ b * g → n * m * (c * d) ≡ a * b * (e * g)
      go n e m g h k = omega (arith, ap (λ (z : ℕ). z * (m * d)) h, ap (λ (z : ℕ). a * e * z) k)

  pub add_at : add f x y ≡ round f false (a * d + b * c) (c * d)
  add_at =
      add_is f x y p q
      ∙ round_same f false (num x * den y + num y * den x) (den x * den y) (a * d + b * c) (c * d) (mul-pos (den_pos x) (den_pos y)) (mul-pos C D)
      (go (num x) (den x) (num y) (den y) v' w')
    where
      go : (n e m g : ℕ) → n * c ≡ a * e → m * d ≡ b * g → (n * g + m * e) * (c * d) ≡ (a * d + b * c) * (e * g)
      go n e m g h k = omega (arith, ap (λ (z : ℕ). z * (g * d)) h, ap (λ (z : ℕ). z * (e * c)) k)

  pub sub_at : T (le y x) → sub f x y ≡ round f false (a * d - b * c) (c * d)
  sub_at l =
      sub_is f x y p q l
      ∙ round_same f false (num x * den y - num y * den x) (den x * den y) (a * d - b * c) (c * d) (mul-pos (den_pos x) (den_pos y)) (mul-pos C D)
      (go (num x) (den x) (num y) (den y) v' w')
    where
      less : (k a b : ℕ) → (a - b) * k ≡ k * a - k * b
      less k a b = mul_comm (a - b) k ∙ mul-sub k a b

      go : (n e m g : ℕ) → n * c ≡ a * e → m * d ≡ b * g → (n * g - m * e) * (c * d) ≡ (a * d - b * c) * (e * g)
      go n e m g h k =
          let i : c * d * (n * g) ≡ e * g * (a * d) = omega (arith, ap (λ (z : ℕ). z * (g * d)) h) in
          let j : c * d * (m * e) ≡ e * g * (b * c) = omega (arith, ap (λ (z : ℕ). z * (e * c)) k) in
          less (c * d) (n * g) (m * e) ∙ ap (λ (z : ℕ). z - c * d * (m * e)) i ∙ ap (λ (z : ℕ). e * g * (a * d) - z) j ∙ sym (less (e * g) (a * d) (b * c))

  pub div_at : T (positive y) → div f x y ≡ round f false (a * d) (b * c)
  div_at t =
      let B : 0 < b = value_pos y b d t D w in
      let N : 0 < num y = value_pos y (num y) (den y) t (den_pos y) (own_value y t) in
      div_is f x y p t
      ∙ round_same f false (num x * den y) (num y * den x) (a * d) (b * c) (mul-pos N (den_pos x)) (mul-pos B C) (go (num x) (den x) (num y) (den y) v' w')
    where
      go : (n e m g : ℕ) → n * c ≡ a * e → m * d ≡ b * g → n * g * (b * c) ≡ a * d * (m * e)
      go n e m g h k = omega (arith, ap (λ (z : ℕ). z * (b * g)) h, ap (λ (z : ℕ). a * e * z) k)
