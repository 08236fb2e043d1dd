-- The whole number nearest to √M is the q for which M + q - q² is from 1 to 2 q: then √M is between q - 1/2 and q + 1/2, and the root of 4 M is 2 q -
-- 1 or 2 q. Assumes nothing.
use mathlib.Core.Path.{◌≡◌, sym, ap, ◌∙◌}
use Prim.Native.Nat.{ℕ, ◌+◌, ◌-◌, ◌*◌, ◌/◌, ◌%◌, ◌^◌, ◌≤◌, ◌<◌}
use native.Mathlib.Nat.{lt_of_le_of_lt}
use native.Mathlib.Omega.{arith}
use Rattle.sqrt.specs.Root.{root}
use Rattle.sqrt.proofs.Roots.{root_is, sq_suc, sq_dbl, sq_lt_back}

-- over is 2 ^ 52 m + q - q²
abbrev pub Over : ℕ → ℕ → ℕ → Type 0
Over m q over = over + q * q ≡ m * 2 ^ 52 + q

-- from q to q + 1
over_next : (m q over : ℕ) → Over m q over → 2 * q < over → Over m (q + 1) (over - 2 * q)
over_next m q over e h = omega (arith, sq_suc q)

pub over_nearest : (m q over : ℕ) → Over m q over → 0 < over → over ≤ 2 * q → q ≡ (root (m * 2 ^ 54) + 1) / 2
over_nearest m q over e s l =
    between (root n) (sq_lt_back (2 * p + 1) (root n + 1) (lt_of_le_of_lt below (root_is n).1))
    (sq_lt_back (root n) (2 * q + 1) (lt_of_le_of_lt (root_is n).0 above))
  where
    n : ℕ
    n = m * 2 ^ 54

    p : ℕ
    p = q - 1

    again : q ≡ p + 1
    again = omega arith

    below : (2 * p + 1) * (2 * p + 1) ≤ n
    below = omega (arith, sq_suc (2 * p), sq_dbl p, sq_suc p, ap (λ (z : ℕ). z * z) again)

    above : n < (2 * q + 1) * (2 * q + 1)
    above = omega (arith, sq_suc (2 * q), sq_dbl q)

    between : (r : ℕ) → 2 * p + 1 < r + 1 → r < 2 * q + 1 → q ≡ (r + 1) / 2
    between r h k = omega arith

-- the next number is the nearest, or the one after it
pub over_second : (m q over : ℕ) → Over m q over → 2 * q < over → over ≤ 4 * q + 2 → q + 1 ≡ (root (m * 2 ^ 54) + 1) / 2
over_second m q over e h k = over_nearest m (q + 1) (over - 2 * q) (over_next m q over e h) (omega arith) (omega arith)

pub over_third : (m q over : ℕ) → Over m q over → 4 * q + 2 < over → over ≤ 6 * q + 6 → q + 2 ≡ (root (m * 2 ^ 54) + 1) / 2
over_third m q over e h k = twice ∙ over_second m (q + 1) (over - 2 * q) (over_next m q over e (omega arith)) (omega arith) (omega arith)
  where
    twice : q + 2 ≡ q + 1 + 1
    twice = omega arith

-- ---- q² by the halves of q, a and b
module _ (q : ℕ) (h : q < 2 ^ 53) where
  abbrev a : ℕ
  a = q / 2 ^ 26

  abbrev b : ℕ
  b = q % 2 ^ 26

  pub over_is : (m : ℕ) → a * a ≤ m → a * b * 2 ≤ (m - a * a) * 2 ^ 26 + a → b * b ≤ ((m - a * a) * 2 ^ 26 + a - a * b * 2) * 2 ^ 26 + b
      → Over m q (((m - a * a) * 2 ^ 26 + a - a * b * 2) * 2 ^ 26 + b - b * b)
  over_is m i j k = omega (arith, square)
    where
      whole : a * 2 ^ 26 + b ≡ q
      whole = omega arith

      square : q * q ≡ a * a * 2 ^ 52 + a * b * 2 * 2 ^ 26 + b * b
      square = sym (ap (λ (z : ℕ). z * z) whole) ∙ expand a b
        where
          expand : (a b : ℕ) → (a * 2 ^ 26 + b) * (a * 2 ^ 26 + b) ≡ a * a * 2 ^ 52 + a * b * 2 * 2 ^ 26 + b * b
          expand a b = omega arith
