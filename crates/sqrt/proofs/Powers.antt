-- Facts on powers of two that the functions' proofs cite. Assumes nothing.
use mathlib.Core.Path.{◌≡◌, refl, sym, ap, ◌∙◌}
use Prim.Native.Nat.{ℕ, zero, suc, ◌+◌, ◌-◌, ◌*◌, ◌/◌, ◌%◌, ◌^◌, ◌≤◌, ◌<◌}
use native.Mathlib.Nat.{le_trans, le_of_eq, mul_assoc, mul-one, mul-le-mul_left}
use native.Mathlib.Omega.{arith}
use lib.Pow.{pow-add}
use Rattle.sqrt.proofs.Roots.{four_pow}

pub joined : (q i j n : ℕ) → i + j ≡ n → q * 2 ^ i * 2 ^ j ≡ q * 2 ^ n
joined q i j n e = mul_assoc q (2 ^ i) (2 ^ j) ∙ ap (λ (x : ℕ). q * x) (sym (pow-add 2 i j) ∙ ap (λ (x : ℕ). 2 ^ x) e)

-- an exponent by halves: an odd one leaves a two over
pub split_pow : (q e : ℕ) → q * (1 + e % 2) * 4 ^ (e / 2) ≡ q * 2 ^ e
split_pow q e =
    let h = e / 2 in
    ap (λ (x : ℕ). q * x * 4 ^ h) (power (e % 2) (omega arith)) ∙ ap (λ (x : ℕ). q * 2 ^ (e % 2) * x) (four_pow h ∙ sym (pow-add 2 h h))
    ∙ joined q (e % 2) (h + h) e (omega arith)
  where
    power : (r : ℕ) → r < 2 → 1 + r ≡ 2 ^ r
    power zero l = refl
    power (suc zero) l = refl
    power (suc (suc r)) l = absurd (none r l)
      where
        none : (r : ℕ) → suc (suc r) < 2 → ⊥
        none r l = omega arith

pub one_or_two : (q e : ℕ) → (q ≤ q * (1 + e % 2)) × (q * (1 + e % 2) ≤ q * 2)
one_or_two q e = (le_trans (le_of_eq (sym (mul-one q))) (mul-le-mul_left q (omega arith)), mul-le-mul_left q (omega arith))

-- digits that stand for the n of units_of stand for the n * 2 ^ 1074 of a root
pub in_units : (n q place : ℕ) → n * 2 ^ 52 ≡ q * 2 ^ place → q * 2 ^ (place + 1022) ≡ n * 2 ^ 1074
in_units n q place e =
    sym (joined q place 1022 (place + 1022) refl) ∙ ap (λ (x : ℕ). x * 2 ^ 1022) (sym e) ∙ joined n 52 1022 1074 refl

-- a significand with its leading one, in the units of a root
pub high_side : (q f : ℕ) → (f ≡ 0 → ⊥) → q * 2 ^ (f + 1073) ≡ q * 2 ^ (f - 1) * 2 ^ 1074
high_side q f h =
    let e : f - 1 + 1074 ≡ f + 1073 = omega arith in
    sym (joined q (f - 1) 1074 (f + 1073) e)
