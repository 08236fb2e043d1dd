-- At p = 2 ^ -j the figure is j bits exactly, and for a p of 2 ^ -j at least it is j bits at most; so it is never above 8. Assumes nothing.
use mathlib.Core.Path.{◌≡◌, refl, sym, ap, ◌∙◌, subst}
use Prim.Native.Nat.{ℕ, ◌+◌, ◌*◌, ◌^◌, ◌≤◌, ◌<◌}
use native.Mathlib.Nat.{le_trans, le_of_eq, mul_comm, le_of_mul-le-mul_right, eq_of_mul-eq-mul_right, pow-le-pow_left, lt_of_mul-lt-mul_right}
use native.Mathlib.Omega.{arith}
use mathlib.Core.Bool.{Bool, true, false}
use lib.Arith.{lt_of_le-ne}
use lib.Pow.{pow-add}
use lib.Ieee.{Float, eq}
use lib.Ieee.Positive.{num, den, den_pos}
use Rattle.rounding.proofs.Powers.{scaled_pow, pow_inj, pow_le_inj, pow_lt_inj, pow_above}
use Rattle.rounding.proofs.FromZero.{nonneg_of_positive}
use Rattle.rounding.proofs.Compare.{eq_false}
use Rattle.rounding.specs.Doubles.{one}
use Rattle.entropy.specs.Entropy.{units, whole_bits, leading, entropy_units}
use Rattle.entropy.specs.MinEntropy.{Probability}
use Rattle.entropy.proofs.Cases.{units_at_power}
use Rattle.entropy.proofs.Doublings.{leads, num_above, from_least}
use Rattle.entropy.proofs.Bounds.{cross, leading_positive, is_power, never_above}

same_power : (a i j b : ℕ) → 0 < a → a * 2 ^ i ≡ b → a * 2 ^ j ≡ b → i ≡ j
same_power a i j b A e g = pow_inj i j (eq_of_mul-eq-mul_right a A (2 ^ i) (2 ^ j) (mul_comm (2 ^ i) a ∙ e ∙ sym g ∙ mul_comm a (2 ^ j)))

-- no power of two lies strictly between b and 2 * b, if b / a is one
none_between : (a b i j : ℕ) → a * 2 ^ i ≡ b → b < a * 2 ^ j → a * 2 ^ j < 2 * b → ⊥
none_between a b i j e h g =
    no i j (pow_lt_inj i j (lt_of_mul-lt-mul_right a (omega arith)))
    (pow_lt_inj j (i + 1) (subst (λ (z : ℕ). 2 ^ j < z) (sym (pow-add 2 i 1)) (lt_of_mul-lt-mul_right a (omega arith))))
  where
    no : (i j : ℕ) → i < j → j < i + 1 → ⊥
    no i j h g = omega arith

module _ (p : Float) (r : Probability p) where
  not_one : eq (leading p) one ≡ false → num p * 2 ^ whole_bits p ≡ den p → ⊥
  not_one e h =
      let x = leading p in
      eq_false x one (nonneg_of_positive x (leading_positive p r)) tt e
      (eq_of_mul-eq-mul_right (den p) (den_pos p) (num x * 1) (1 * den x)
      (go (num x) (den x) (num p * 2 ^ whole_bits p) (den p) (cross p r) (ap (λ (z : ℕ). z * den x) h)))
    where
      go : (n e a c : ℕ) → n * c ≡ a * e → a * e ≡ c * e → n * 1 * c ≡ 1 * e * c
      go n e a c h g = omega arith

  -- p = 2 ^ -i
  pub exact_at_power : (i : ℕ) → num p * 2 ^ i ≡ den p → entropy_units p ≡ i * units
  exact_at_power i g = go (eq (leading p) one) refl
    where
      above : num p * 2 ^ i ≡ den p → (num p * 2 ^ whole_bits p ≡ den p → ⊥) → den p < num p * 2 ^ whole_bits p
      above g n = lt_of_le-ne (leads p r).from_one (λ (q : den p ≡ num p * 2 ^ whole_bits p). n (sym q))

      go : (b : Bool) → eq (leading p) one ≡ b → entropy_units p ≡ i * units
      go true e = units_at_power p e ∙ ap (λ (k : ℕ). k * units) (same_power (num p) (whole_bits p) i (den p) (num_above p r) (is_power p r e) g)
      go false e = absurd (none_between (num p) (den p) i (whole_bits p) g (above g (not_one e)) (leads p r).doubled.below_two)

  -- p from 2 ^ -i up
  pub at_most_bits : (i : ℕ) → den p ≤ num p * 2 ^ i → entropy_units p ≤ i * units
  at_most_bits i h =
      let m = entropy_units p in
      pow_le_inj m (i * units)
      (le_of_mul-le-mul_right
      (le_trans (le_of_eq (mul_comm (2 ^ m) (num p ^ units)))
      (le_trans (never_above p r)
      (le_trans (pow-le-pow_left h units) (le_of_eq (scaled_pow (num p) i units ∙ mul_comm (num p ^ units) (2 ^ (i * units)))))))
      (pow_above units (num_above p r)))

  pub at_most_eight : entropy_units p ≤ 8 * units
  at_most_eight = at_most_bits 8 (from_least p r)
