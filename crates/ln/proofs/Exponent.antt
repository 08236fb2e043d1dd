-- The exponent place - 1074, as the signed difference that the code takes: it is small, so the machine's words and the doubles have it. Assumes nothing.
use mathlib.Core.Path.{◌≡◌, sym, ap, ◌∙◌}
use Prim.Native.Nat.{ℕ, suc, ◌-◌, ◌^◌, ◌≤◌, ◌<◌}
use native.Mathlib.Nat.{not-le_of_lt}
use native.Mathlib.Omega.{arith}
use mathlib.Core.Bool.{Bool, true, false, not, cond}
use lib.IntN.{ℤ, pos, negsuc, sub_ℕ, ◌-ℤ◌}
use lib.Dec.{T, leb, ltb, ltb→lt, nltb→le, lt→ltb, le→leb, leb→le, not_T}
use lib.Ieee.{binary64, minus, in_float}
use lib.Ieee.Bits.{is_true, is_false}
use mir.Syntax.{w64}
use mir.Val.{SFits, to_z}
use mir.ValLaws.{to_z_pos}

-- two ways to write a difference
sub_is : (a b : ℕ) → sub_ℕ a b ≡ minus a b
sub_is a b = go (ltb a b) (ltb→lt a b) (nltb→le a b)
  where
    go : (t : Bool) → (T t → a < b) → (T (not t) → b ≤ a) → cond t (negsuc (b - suc a)) (pos (a - b)) ≡ cond (leb b a) (pos (a - b)) (negsuc (b - suc a))
    go true y n =
        sym (ap (λ (u : Bool). cond u (pos (a - b)) (negsuc (b - suc a)))
        (is_false (leb b a) (not_T (leb b a) (λ (u : T (leb b a)). not-le_of_lt (y tt) (leb→le b a u)))))
    go false y n = sym (ap (λ (u : Bool). cond u (pos (a - b)) (negsuc (b - suc a))) (is_true (leb b a) (le→leb b a (n tt))))

pub difference : (n : ℕ) → n ≤ 3000 → to_z w64 n -ℤ pos 1074 ≡ minus n 1074
difference n h = ap (λ (z : ℤ). z -ℤ pos 1074) (to_z_pos w64 n (omega arith)) ∙ sub_is n 1074

-- what holds of either sign's number
by_sign : (P : ℤ → Type 0) (n : ℕ) → P (pos (n - 1074)) → P (negsuc (1074 - suc n)) → P (minus n 1074)
by_sign P n p q = go (leb 1074 n)
  where
    go : (t : Bool) → P (cond t (pos (n - 1074)) (negsuc (1074 - suc n)))
    go true = p
    go false = q

pub difference_fits : (n : ℕ) → n ≤ 3000 → SFits w64 (minus n 1074)
difference_fits n h = by_sign (SFits w64) n (record { sfits = omega arith }) (record { sfits = omega arith })

pub difference_exact : (n : ℕ) → n ≤ 3000 → T (in_float binary64 (minus n 1074))
unfolding in_float
difference_exact n h = by_sign (λ (z : ℤ). T (in_float binary64 z)) n (le→leb (n - 1074) (2 ^ 53) (omega arith)) (lt→ltb (1074 - suc n) (2 ^ 53) (omega arith))
