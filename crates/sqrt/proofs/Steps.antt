-- One turn of the loop of `sqrt::digits`, on numbers. Assumes nothing.
use mathlib.Core.Path.{◌≡◌, sym, ap, ◌∙◌, subst}
use Prim.Native.Nat.{ℕ, ◌+◌, ◌-◌, ◌*◌, ◌/◌, ◌%◌, ◌^◌, ◌≤◌, ◌<◌}
use native.Mathlib.Nat.{mul_comm, mul_left_comm, pow-succ'}
use native.Mathlib.Numerals.{add-one}
use native.Mathlib.Omega.{arith}
use lib.Pow.{pow_mono}
use Rattle.sqrt.specs.Inner.Steps.{IsRoot}
use Rattle.sqrt.specs.Root.{root}
use Rattle.sqrt.proofs.Roots.{root_only, sq_suc, sq_dbl}

-- m * 4 ^ i is the digits taken, q * q + rem, and then the digits w that are left, of 54 places
abbrev pub Taken : ℕ → ℕ → ℕ → ℕ → ℕ → Type 0
Taken m w q rem i = (i ≤ 54) × (2 ^ i ≤ 2 ^ 54) × (w < 2 ^ 54) × (q < 2 ^ i) × (rem ≤ 2 * q) × (m * 4 ^ i ≡ (q * q + rem) * 2 ^ 54 + w)

pub start : (m : ℕ) → m < 2 ^ 54 → Taken m m 0 0 0
start m h = omega arith

next_pow : (m i : ℕ) → m * 4 ^ (i + 1) ≡ 4 * (m * 4 ^ i)
next_pow m i = ap (λ (x : ℕ). m * 4 ^ x) (add-one i) ∙ ap (λ (x : ℕ). m * x) (pow-succ' 4 i) ∙ mul_left_comm m 4 (4 ^ i)

next_two : (i : ℕ) → 2 ^ (i + 1) ≡ 2 * 2 ^ i
next_two i = ap (λ (x : ℕ). 2 ^ x) (add-one i) ∙ pow-succ' 2 i

room : (i : ℕ) → i < 54 → 2 ^ (i + 1) ≤ 2 ^ 54
room i h = pow_mono {i = i + 1} {j = 54} (omega arith)

twice : (q : ℕ) → q * 2 * (q * 2) ≡ 4 * (q * q)
twice q = ap (λ (x : ℕ). x * x) (mul_comm q 2) ∙ sq_dbl q

pub no_digit : (m w q rem i : ℕ) → Taken m w q rem i → i < 54 → rem * 4 + w / 2 ^ 52 ≤ q * 2 * 2 →
    Taken m (w % 2 ^ 52 * 4) (q * 2) (rem * 4 + w / 2 ^ 52) (i + 1)
no_digit m w q rem i t h l = omega (arith, next_pow m i, next_two i, room i h, twice q)

pub digit : (m w q rem i : ℕ) → Taken m w q rem i → i < 54 → q * 2 * 2 < rem * 4 + w / 2 ^ 52 →
    Taken m (w % 2 ^ 52 * 4) (q * 2 + 1) (rem * 4 + w / 2 ^ 52 - (q * 2 * 2 + 1)) (i + 1)
digit m w q rem i t h l = omega (arith, next_pow m i, next_two i, room i h, twice q, sq_suc (q * 2))

whole : (m w q rem : ℕ) → w < 2 ^ 54 → rem ≤ 2 * q → m * 4 ^ 54 ≡ (q * q + rem) * 2 ^ 54 + w → IsRoot (m * 2 ^ 54) q
whole m w q rem a b e = omega (arith, sq_suc q)

pub finish : (m w q rem i : ℕ) → Taken m w q rem i → 54 ≤ i → q ≡ root (m * 2 ^ 54)
finish m w q rem i t h =
    let e : i ≡ 54 = omega arith in
    root_only (m * 2 ^ 54) q (whole m w q rem t.2 t.4 (subst (λ (x : ℕ). m * 4 ^ x ≡ (q * q + rem) * 2 ^ 54 + w) e t.5))

-- the same of equal numbers
pub same : (m w i : ℕ) {q r q' r' : ℕ} → q' ≡ q → r' ≡ r → Taken m w q r i → Taken m w q' r' i
same m w i {q} {r} {q'} {r'} a b t = subst (λ (x : ℕ). Taken m w x r' i) (sym a) (subst (λ (x : ℕ). Taken m w q x i) (sym b) t)
