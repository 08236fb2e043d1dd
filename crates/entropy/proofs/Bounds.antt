-- The figure is never above the exact -log2 p, and at most three units below it. With p = a / b and m units: a ^ N * 2 ^ m ≤ b ^ N ≤ a ^ N * 2 ^ (m +
-- 3), N = 2 ^ 24.
-- The powers stay unknowns: nothing here knows how large `units` is. Assumes nothing.
use mathlib.Core.Path.{◌≡◌, refl, sym, ap, ◌∙◌, subst}
use Prim.Native.Nat.{ℕ, ◌+◌, ◌-◌, ◌*◌, ◌^◌, ◌≤◌, ◌<◌}
use native.Mathlib.Nat.{le_trans, le_of_eq, mul-one, mul-le-mul_left, mul-le-mul_right, le_of_mul-le-mul_right, eq_of_mul-eq-mul_right}
use native.Mathlib.Nat.{mul-pos, pow-le-pow_left}
use native.Mathlib.Omega.{arith}
use mathlib.Core.Bool.{Bool, true, false, not}
use lib.Dec.{T, ltb, ltb→lt, nltb→le}
use lib.Pow.{pow-add, pow_pos, pow_mono}
use lib.Ieee.{Float, eq}
use lib.Ieee.Positive.{num, den, positive, den_pos, value→cross, positive_of_value}
use Rattle.rounding.proofs.Powers.{mul_pow, scaled_pow, pow_above}
use Rattle.rounding.proofs.FromZero.{nonneg_of_positive}
use Rattle.rounding.proofs.Compare.{eq_true}
use Rattle.rounding.specs.Doubles.{one}
use Rattle.entropy.specs.Entropy.{units, whole_bits, leading, log_digits, entropy_units}
use Rattle.entropy.specs.MinEntropy.{Probability}
use Rattle.entropy.specs.DemandThree.{NeverAbove, AtMostBelow}
use Rattle.entropy.proofs.Cases.{units_at_power, units_between}
use Rattle.entropy.proofs.Doublings.{Leading, leads, num_above, to_one}
use Rattle.entropy.proofs.Logarithm.{Logged, logged}

-- both bounds
pub record Figure (a b m : ℕ) : Type 0 where
  pub never_above : NeverAbove a b m
  pub close : AtMostBelow 3 a b m

-- a power of two
figure_exact : (a b j : ℕ) → a * 2 ^ j ≡ b → Figure a b (j * units)
figure_exact a b j e =
    let N = units in
    let q : a ^ N * 2 ^ (j * N) ≡ b ^ N = sym (scaled_pow a j N) ∙ ap (λ (z : ℕ). z ^ N) e in
    record { never_above = le_of_eq q; close = le_trans (le_of_eq (sym q)) (mul-le-mul_left (a ^ N) (pow_mono (more (j * N)))) }
  where
    more : (n : ℕ) → n ≤ n + 3
    more n = omega arith

-- ---- the other values, where L + 2 units are taken off, and no lower than 0: u is 2 ^ L and W is 2 ^ (j * units)
low_end : (u β α W : ℕ) → W ≤ u * 4 → u * β ≤ 2 * (α * W) → 0 < u → β ≤ α * 8
low_end u β α W h g U = le_of_mul-le-mul_right (go (mul-le-mul_left α h) g) U
  where
    go : α * W ≤ α * (u * 4) → u * β ≤ 2 * (α * W) → β * u ≤ α * 8 * u
    go a b = omega arith

below_end : (u β α p W : ℕ) → W ≡ p * (u * 4) → α * W ≤ 4 * (u * β) → 0 < u → α * p ≤ β
below_end u β α p W e h U = le_of_mul-le-mul_right {k = u * 4} (go (ap (λ (z : ℕ). α * z) e) h) (mul-pos U (omega arith))
  where
    go : α * W ≡ α * (p * (u * 4)) → α * W ≤ 4 * (u * β) → α * p * (u * 4) ≤ β * (u * 4)
    go a b = omega arith

close_end : (u β α p W : ℕ) → W ≡ p * (u * 4) → u * β ≤ 2 * (α * W) → 0 < u → β ≤ α * (p * 8)
close_end u β α p W e h U = le_of_mul-le-mul_right (go (ap (λ (z : ℕ). α * z) e) h) U
  where
    go : α * W ≡ α * (p * (u * 4)) → u * β ≤ 2 * (α * W) → β * u ≤ α * (p * 8) * u
    go a b = omega arith

module _ (p : Float) (r : Probability p) where
  abbrev x : Float
  x = leading p

  abbrev j : ℕ
  j = whole_bits p

  l : Leading p x j
  l = leads p r

  pub leading_positive : T (positive x)
  leading_positive = positive_of_value x (num p * 2 ^ j) (den p) l.doubled.value (mul-pos (num_above p r) (pow_pos j))

  pub cross : num x * den p ≡ num p * 2 ^ j * den x
  cross = value→cross x (num p * 2 ^ j) (den p) l.doubled.value

  from_one : den x ≤ num x
  from_one = le_of_mul-le-mul_right (go (num x) (den x) (num p * 2 ^ j) (den p) cross (mul-le-mul_right (den x) l.from_one)) (den_pos p)
    where
      go : (n e a c : ℕ) → n * c ≡ a * e → c * e ≤ a * e → e * c ≤ n * c
      go n e a c h g = omega arith

  to_two : num x ≤ 2 * den x
  to_two = le_of_mul-le-mul_right (go (num x) (den x) (num p * 2 ^ j) (den p) cross (mul-le-mul_right (den x) (weak l.doubled.below_two))) (den_pos p)
    where
      weak : {a b : ℕ} → a < b → a ≤ b
      weak h = omega arith

      go : (n e a c : ℕ) → n * c ≡ a * e → a * e ≤ 2 * c * e → n * c ≤ 2 * e * c
      go n e a c h g = omega arith

  -- x is 1, so p is 2 ^ -j
  pub is_power : eq x one ≡ true → num p * 2 ^ j ≡ den p
  is_power e =
      eq_of_mul-eq-mul_right (den x) (den_pos x) (num p * 2 ^ j) (den p)
      (go (num x) (den x) (num p * 2 ^ j) (den p) cross (ap (λ (z : ℕ). z * den p) (eq_true x one (nonneg_of_positive x leading_positive) tt e)))
    where
      go : (n e a c : ℕ) → n * c ≡ a * e → n * 1 * c ≡ 1 * e * c → a * e ≡ c * e
      go n e a c h g = omega arith

  -- the logarithm's bounds, carried from x to p
  abbrev L : ℕ
  L = log_digits 24 x

  log : Logged (num x) (den x) L
  log = logged x leading_positive l.doubled.double from_one to_two

  powers : num x ^ units * den p ^ units ≡ num p ^ units * 2 ^ (j * units) * den x ^ units
  powers = sym (mul_pow (num x) (den p) units) ∙ ap (λ (z : ℕ). z ^ units) cross ∙ mul_pow (num p * 2 ^ j) (den x) units
      ∙ ap (λ (z : ℕ). z * den x ^ units) (scaled_pow (num p) j units)

  at_least : 2 ^ L * den p ^ units ≤ 2 * (num p ^ units * 2 ^ (j * units))
  at_least = le_of_mul-le-mul_right
      (go (num x ^ units) (den x ^ units) (num p ^ units * 2 ^ (j * units)) (den p ^ units) (2 ^ L) powers
      (mul-le-mul_right (den p ^ units) log.low)) (pow_above units (den_pos x))
    where
      go : (X Y A B u : ℕ) → X * B ≡ A * Y → u * Y * B ≤ 2 * X * B → u * B * Y ≤ 2 * A * Y
      go X Y A B u e h = omega arith

  at_most : num p ^ units * 2 ^ (j * units) ≤ 4 * (2 ^ L * den p ^ units)
  at_most = le_of_mul-le-mul_right
      (go (num x ^ units) (den x ^ units) (num p ^ units * 2 ^ (j * units)) (den p ^ units) (2 ^ L) powers
      (mul-le-mul_right (den p ^ units) log.high)) (pow_above units (den_pos x))
    where
      go : (X Y A B u : ℕ) → X * B ≡ A * Y → X * B ≤ 4 * (u * Y) * B → A * Y ≤ 4 * (u * B) * Y
      go X Y A B u e h = omega arith

  figure-less : L + 2 < j * units → Figure (num p) (den p) (j * units - (L + 2))
  figure-less h =
      let m = j * units - (L + 2) in
      let w : 2 ^ (j * units) ≡ 2 ^ m * (2 ^ L * 4) =
      ap (λ (z : ℕ). 2 ^ z) (back (j * units) (L + 2) h) ∙ pow-add 2 m (L + 2) ∙ ap (λ (z : ℕ). 2 ^ m * z) (pow-add 2 L 2) in
      record {
        never_above = below_end (2 ^ L) (den p ^ units) (num p ^ units) (2 ^ m) (2 ^ (j * units)) w at_most (pow_pos L);
        close = subst (λ (z : ℕ). den p ^ units ≤ num p ^ units * z) (sym (pow-add 2 m 3))
            (close_end (2 ^ L) (den p ^ units) (num p ^ units) (2 ^ m) (2 ^ (j * units)) w at_least (pow_pos L));
      }
    where
      back : (n k : ℕ) → k < n → n ≡ n - k + k
      back n k h = omega arith

  figure_none : j * units ≤ L + 2 → Figure (num p) (den p) 0
  figure_none h = record {
    never_above = le_trans (le_of_eq (mul-one (num p ^ units))) (pow-le-pow_left (to_one p r) units);
    close = low_end (2 ^ L) (den p ^ units) (num p ^ units) (2 ^ (j * units)) (le_trans (pow_mono h) (le_of_eq (pow-add 2 L 2))) at_least (pow_pos L);
  }

  pub figure : Figure (num p) (den p) (entropy_units p)
  figure = by_test (eq x one) refl
    where
      none : (a b : ℕ) → a ≤ b → 0 ≡ a - b
      none a b h = omega arith

      by_size : (b : Bool) → (T b → L + 2 < j * units) → (T (not b) → j * units ≤ L + 2) → Figure (num p) (den p) (j * units - (L + 2))
      by_size true h g = figure-less (h tt)
      by_size false h g = subst (Figure (num p) (den p)) (none (j * units) (L + 2) (g tt)) (figure_none (g tt))

      by_test : (b : Bool) → eq x one ≡ b → Figure (num p) (den p) (entropy_units p)
      by_test true e = subst (Figure (num p) (den p)) (sym (units_at_power p e)) (figure_exact (num p) (den p) j (is_power e))
      by_test false e =
          subst (Figure (num p) (den p)) (sym (units_between p e))
          (by_size (ltb (L + 2) (j * units)) (ltb→lt (L + 2) (j * units)) (nltb→le (L + 2) (j * units)))

-- ---- the two laws
pub never_above : (p : Float) → Probability p → NeverAbove (num p) (den p) (entropy_units p)
never_above p r = (figure p r).never_above

pub at_most_three_below : (p : Float) → Probability p → AtMostBelow 3 (num p) (den p) (entropy_units p)
at_most_three_below p r = (figure p r).close
