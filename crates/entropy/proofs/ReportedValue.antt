-- The figure of m units as a double is exactly m / 2 ^ 24, and a zero is negative zero. Assumes nothing.
use mathlib.Core.Path.{◌≡◌, refl, sym, ap, ◌∙◌, subst}
use Prim.Native.Nat.{ℕ, zero, suc, ◌^◌, ◌≤◌, ◌<◌}
use native.Mathlib.Nat.{lt_of_lt_of_le, zero-lt-suc, mul-one}
use native.Mathlib.Omega.{arith}
use mathlib.Core.Bool.{Bool, true, false}
use borrow.Author.Tests.{ne_eqb}
use lib.IntN.{pos, negsuc}
use lib.Dec.{eqb, lit≤}
use lib.Pow.{pow_pos}
use lib.Ieee.{Float, fin, binary64, round, mul, of_int}
use lib.Ieee.Exact.{HasValue}
use Rattle.rounding.proofs.Operations.{mul_at}
use Rattle.rounding.proofs.Exact.{held_whole, round_held}
use Rattle.rounding.proofs.Ranges.{whole_value}
use Rattle.entropy.specs.Entropy.{units, bits_of}

-- -0.0
abbrev pub minus_zero : Float
minus_zero = fin true 0 (pos 0)

pub bits_of_none : bits_of 0 ≡ minus_zero
unfolding bits_of round units
bits_of_none = refl

bits_of_some : (m : ℕ) → (m ≡ 0 → ⊥) → bits_of m ≡ round binary64 false m units
unfolding bits_of
bits_of_some m n = ap (λ (s : Bool). round binary64 s m units) (ne_eqb m 0 n)

-- 2 ^ -24
abbrev pub unit : Float
unit = fin false 1 (negsuc 23)

-- as the code computes it
pub bits_of_product : (m : ℕ) → (m ≡ 0 → ⊥) → m ≤ 2 ^ 53 → mul binary64 (of_int binary64 (pos m)) unit ≡ bits_of m
unfolding units
bits_of_product m n h =
    mul_at binary64 (of_int binary64 (pos m)) unit m 1 1 (2 ^ 24) (zero-lt-suc 0) (pow_pos 24) (whole_value binary64 m h) (refl, refl)
    ∙ ap (λ (k : ℕ). round binary64 false k (2 ^ 24)) (mul-one m)
    ∙ sym (bits_of_some m n)

pub reported_value : (m : ℕ) → m < 2 ^ 53 → HasValue (bits_of m) (eqb m 0) m units
unfolding units
reported_value zero h = subst (λ (r : Float). HasValue r true 0 (2 ^ 24)) (sym bits_of_none) (refl, refl)
reported_value (suc k) h =
    let m = suc k in
    let n : m ≡ 0 → ⊥ = λ (e : m ≡ 0). none k e in
    subst (λ (s : Bool). HasValue (bits_of m) s m (2 ^ 24)) (sym (ne_eqb m 0 n))
    (subst (λ (r : Float). HasValue r false m (2 ^ 24)) (sym (bits_of_some m n))
    (round_held binary64 m (2 ^ 24) (pow_pos 24) (held_whole binary64 m 24 h (lit≤ tt)) (lt_of_lt_of_le h (lit≤ tt))))
  where
    none : (k : ℕ) → suc k ≡ 0 → ⊥
    none k e = omega arith
