-- A quotient rounded up is the least number whose product with the divisor is enough: the first two laws say so, and the others follow from them alone.
-- So rounded_up a is its own partner in a Galois connection, and taking it three times is the same as taking it once. Assumes nothing.
use mathlib.Core.Path.{◌≡◌}
use Prim.Native.Nat.{ℕ, suc, ◌+◌, ◌-◌, ◌*◌, ◌/◌, ◌%◌, ◌≤◌, ◌<◌, min}
use native.Mathlib.Nat.{le_refl, le_trans, le_of_eq, le_antisymm, lt_of_not-le, lt_of_lt_of_le, not-le_of_lt, mul_comm, mul-le-mul_left, mul-le-mul_right}
use native.Mathlib.Nat.{lt-div-mul-add, div-lt_iff_lt-mul}
use native.Mathlib.Nat.{lt_irrefl, lt_of_le_of_lt, le_of_suc-le-suc}
use native.Mathlib.Omega.{arith}
use Rattle.std.proofs.lemmas.Grind.{div_ceil_times}
use Rattle.cutoff.specs.Cutoff.{rounded_up}

pub rounded_up_enough : (a b : ℕ) → 0 < b → a ≤ rounded_up a b * b
rounded_up_enough a b B = go (rounded_up a b * b) (lt-div-mul-add B)
  where
    go : (p : ℕ) → a + (b - 1) < p + b → a ≤ p
    go p h = omega arith

pub rounded_up_least : (a b x : ℕ) → 0 < b → a ≤ x * b → rounded_up a b ≤ x
rounded_up_least a b x B h = less (rounded_up a b) ((div-lt_iff_lt-mul B).1 more)
  where
    less : (r : ℕ) → r < x + 1 → r ≤ x
    less r g = omega arith

    more : a + (b - 1) < (x + 1) * b
    more = omega arith

-- ---- what follows from the two
pub rounded_up_above : (a b x : ℕ) → 0 < b → x * b < a → x < rounded_up a b
rounded_up_above a b x B h =
    lt_of_not-le (λ (g : rounded_up a b ≤ x). not-le_of_lt h (le_trans (rounded_up_enough a b B) (mul-le-mul_right b g)))

pub rounded_up_pos : (a b : ℕ) → 0 < a → 0 < b → 0 < rounded_up a b
rounded_up_pos a b A B = rounded_up_above a b 0 B (none b)
  where
    none : (b : ℕ) → 0 * b < a
    none b = omega arith

pub rounded_up_turned : (a b x : ℕ) → 0 < b → 0 < x → rounded_up a b ≤ x → rounded_up a x ≤ b
rounded_up_turned a b x B X h =
    rounded_up_least a x b X (le_trans (rounded_up_enough a b B) (le_trans (mul-le-mul_right b h) (le_of_eq (mul_comm x b))))

pub rounded_up_falls : (a b c : ℕ) → 0 < b → b ≤ c → rounded_up a c ≤ rounded_up a b
rounded_up_falls a b c B h =
    rounded_up_least a c (rounded_up a b) (lt_of_lt_of_le B h) (le_trans (rounded_up_enough a b B) (mul-le-mul_left (rounded_up a b) h))

pub rounded_up_twice : (a b : ℕ) → 0 < a → 0 < b → rounded_up a (rounded_up a b) ≤ b
rounded_up_twice a b A B = rounded_up_turned a b (rounded_up a b) B (rounded_up_pos a b A B) (le_refl (rounded_up a b))

pub rounded_up_thrice : (a b : ℕ) → 0 < a → 0 < b → rounded_up a (rounded_up a (rounded_up a b)) ≡ rounded_up a b
rounded_up_thrice a b A B =
    let r = rounded_up a b in
    let R : 0 < r = rounded_up_pos a b A B in
    le_antisymm (rounded_up_twice a r A R) (rounded_up_falls a (rounded_up a r) b (rounded_up_pos a r A R) (rounded_up_twice a b A B))

-- ---- std's form of it
pub div_ceil-rounded_up : (a b : ℕ) → 0 < b → a / b + min 1 (a % b) ≡ rounded_up a b
div_ceil-rounded_up a b B =
    let c = a / b + min 1 (a % b) in
    le_antisymm
    (le_of_suc-le-suc (lt_of_not-le (λ (g : suc (rounded_up a b) ≤ c).
    lt_irrefl (a + b) (lt_of_le_of_lt (le_trans (add-le_right b (rounded_up_enough a b B)) (le_trans (one_more (rounded_up a b) b) (mul-le-mul_right b g))) (div_ceil_times a b B).1))))
    (rounded_up_least a b c B (div_ceil_times a b B).0)
  where
    one_more : (r b : ℕ) → r * b + b ≤ suc r * b
    one_more r b = omega arith

    add-le_right : {m n : ℕ} (k : ℕ) → m ≤ n → m + k ≤ n + k
    add-le_right k h = omega arith
