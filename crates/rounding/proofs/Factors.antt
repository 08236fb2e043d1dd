-- Errors that add up over several roundings: a fraction that is at most (1 + 1 / K) ^ E times another, with K = 2 ^ prec and E the number of roundings.
-- Both directions of an error are this one relation, with the fractions exchanged. Assumes nothing.
use mathlib.Core.Path.{◌≡◌, sym, ap, subst}
use Prim.Native.Nat.{ℕ, suc, ◌+◌, ◌*◌, ◌^◌, ◌≤◌, ◌<◌}
use native.Mathlib.Nat.{le_refl, le_trans, le_of_suc-le-suc, lt_of_not-le, not-le_of_lt, mul-le-mul, mul-le-mul_right, mul-le-mul_left}
use native.Mathlib.Nat.{le_of_mul-le-mul_right, pow-zero, pow-le-pow_left}
use native.Mathlib.Omega.{arith}
use lib.Pow.{pow-add}
use Rattle.rounding.proofs.Powers.{pow_one, pow_above, at_most_two}

-- n / d is at most (1 + 1 / K) ^ E times r / s
abbrev pub Under : (K E n d r s : ℕ) → Type 0
Under K E n d r s = n * s * K ^ E ≤ r * d * suc K ^ E

pub under_refl : (K n d : ℕ) → Under K 0 n d n d
under_refl K n d = rw (pow-zero, pow-zero) (le_refl (n * d * 1))

-- what is at most r / s outright
pub under_le : (K n d r s : ℕ) → n * s ≤ r * d → Under K 0 n d r s
under_le K n d r s h = rw (pow-zero, pow-zero) (mul-le-mul_right 1 h)

-- one rounding
pub under_one : (K n d r s : ℕ) → n * s * K ≤ r * d * suc K → Under K 1 n d r s
under_one K n d r s h = subst (λ (a : ℕ). n * s * a ≤ r * d * suc K ^ 1) (sym (pow_one K)) (subst (λ (a : ℕ). n * s * K ≤ r * d * a) (sym (pow_one (suc K))) h)

pub under_trans : (K E F n d r s q t : ℕ) → 0 < s → Under K E n d r s → Under K F r s q t → Under K (E + F) n d q t
under_trans K E F n d r s q t S h g =
    rw (pow-add, pow-add (suc K)) (le_of_mul-le-mul_right (last (K ^ E) (suc K ^ E) (K ^ F) (suc K ^ F) h g) S)
  where
    last : (P Q U W : ℕ) → n * s * P ≤ r * d * Q → r * t * U ≤ q * s * W → n * t * (P * U) * s ≤ q * d * (Q * W) * s
    last P Q U W h g = omega (arith, mul-le-mul_right (t * U) h, mul-le-mul_right (d * Q) g)

-- a larger E says less
pub under_more : (K E F n d r s : ℕ) → Under K E n d r s → Under K (E + F) n d r s
under_more K E F n d r s h = rw (pow-add, pow-add (suc K)) (last (K ^ E) (suc K ^ E) (K ^ F) (suc K ^ F) (pow-le-pow_left (next K) F) h)
  where
    next : (k : ℕ) → k ≤ suc k
    next k = omega arith

    last : (P Q U W : ℕ) → U ≤ W → n * s * P ≤ r * d * Q → n * s * (P * U) ≤ r * d * (Q * W)
    last P Q U W g h = omega (arith, mul-le-mul h g)

-- ---- of a product, a square, a quotient, a sum, a half and a root
pub under_mul : (K E F n d r s n' d' r' s' : ℕ) → Under K E n d r s → Under K F n' d' r' s' → Under K (E + F) (n * n') (d * d') (r * r') (s * s')
under_mul K E F n d r s n' d' r' s' h g = rw (pow-add, pow-add (suc K)) (last (K ^ E) (suc K ^ E) (K ^ F) (suc K ^ F) h g)
  where
    last : (P Q U W : ℕ) → n * s * P ≤ r * d * Q → n' * s' * U ≤ r' * d' * W → n * n' * (s * s') * (P * U) ≤ r * r' * (d * d') * (Q * W)
    last P Q U W h g = omega (arith, mul-le-mul h g)

pub under_square : (K E n d r s : ℕ) → Under K E n d r s → Under K (E + E) (n * n) (d * d) (r * r) (s * s)
under_square K E n d r s h = under_mul K E E n d r s n d r s h h

-- the reciprocals, the other way round
pub under_flip : (K E n d r s : ℕ) → Under K E n d r s → Under K E s r d n
under_flip K E n d r s h = go (K ^ E) (suc K ^ E) h
  where
    go : (P Q : ℕ) → n * s * P ≤ r * d * Q → s * n * P ≤ d * r * Q
    go P Q h = omega arith

pub under_add : (K E n d r s n' d' r' s' : ℕ) → Under K E n d r s → Under K E n' d' r' s' → Under K E (n * d' + n' * d) (d * d') (r * s' + r' * s) (s * s')
under_add K E n d r s n' d' r' s' h g = go (K ^ E) (suc K ^ E) h g
  where
    go : (P Q : ℕ) → n * s * P ≤ r * d * Q → n' * s' * P ≤ r' * d' * Q → (n * d' + n' * d) * (s * s') * P ≤ (r * s' + r' * s) * (d * d') * Q
    go P Q h g = omega (arith, mul-le-mul_right (d' * s') h, mul-le-mul_right (d * s) g)

pub under_half : (K E n d r s : ℕ) → Under K E n d r s → Under K E n (d * 2) r (s * 2)
under_half K E n d r s h = go (K ^ E) (suc K ^ E) h
  where
    go : (P Q : ℕ) → n * s * P ≤ r * d * Q → n * (s * 2) * P ≤ r * (d * 2) * Q
    go P Q h = omega arith

pub square_le : (a b : ℕ) → a * a ≤ b * b → a ≤ b
square_le a b h = le_of_suc-le-suc (lt_of_not-le (λ (g : suc b ≤ a). not-le_of_lt (more b) (le_trans (mul-le-mul g g) h)))
  where
    more : (b : ℕ) → b * b < suc b * suc b
    more b = omega arith

pub under_root : (K E n d r s : ℕ) → Under K (E + E) (n * n) (d * d) (r * r) (s * s) → Under K E n d r s
under_root K E n d r s h =
    square_le (n * s * K ^ E) (r * d * suc K ^ E)
    (go (K ^ E) (suc K ^ E)
    (subst (λ (z : ℕ). n * n * (s * s) * z ≤ r * r * (d * d) * (suc K ^ E * suc K ^ E)) (pow-add K E E)
    (subst (λ (z : ℕ). n * n * (s * s) * K ^ (E + E) ≤ r * r * (d * d) * z) (pow-add (suc K) E E) h)))
  where
    go : (P Q : ℕ) → n * n * (s * s) * (P * P) ≤ r * r * (d * d) * (Q * Q) → n * s * P * (n * s * P) ≤ r * d * Q * (r * d * Q)
    go P Q h = omega arith

-- ---- the same bound by other fractions of the same size
pub under_left : (K E n d n' d' r s : ℕ) → 0 < d → n * d' ≡ n' * d → Under K E n d r s → Under K E n' d' r s
under_left K E n d n' d' r s D e h = le_of_mul-le-mul_right (last (K ^ E) (suc K ^ E) h) D
  where
    last : (P Q : ℕ) → n * s * P ≤ r * d * Q → n' * s * P * d ≤ r * d' * Q * d
    last P Q h = omega (arith, mul-le-mul_right d' h, ap (λ (z : ℕ). z * (s * P)) e)

pub under_right : (K E n d r s r' s' : ℕ) → 0 < s → r * s' ≡ r' * s → Under K E n d r s → Under K E n d r' s'
under_right K E n d r s r' s' S e h = le_of_mul-le-mul_right (last (K ^ E) (suc K ^ E) h) S
  where
    last : (P Q : ℕ) → n * s * P ≤ r * d * Q → n * s' * P * s ≤ r' * d * Q * s
    last P Q h = omega (arith, mul-le-mul_right s' h, ap (λ (z : ℕ). z * (d * Q)) e)

-- ---- the end: up to K / 2 roundings are a factor of 2 at most
pub under_end : (K E n d r s : ℕ) → 0 < K → E + E ≤ K → Under K E n d r s → n * s ≤ 2 * (r * d)
under_end K E n d r s k l h = le_of_mul-le-mul_right (last (K ^ E) (suc K ^ E) (at_most_two K E k l) h) (pow_above E k)
  where
    last : (P Q : ℕ) → Q ≤ 2 * P → n * s * P ≤ r * d * Q → n * s * P ≤ 2 * (r * d) * P
    last P Q g h = omega (arith, mul-le-mul_left (r * d) g)
