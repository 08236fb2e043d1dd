-- What the contracts of the steps cite. Definitions only.
use Rattle.std.specs.Prelude.{◌≡◌, ℕ, ◌+◌, ◌-◌, ◌*◌, ◌/◌, ◌%◌, ◌^◌, ◌<◌, ◌≤◌, not, cond, T, eqb}
use Rattle.std.specs.Float.{binary64}
use Rattle.std.specs.Float.Ieee.{fits, is_nan, to_bits}
use Rattle.sqrt.specs.Sqrt.{rounded}

-- bits is the pattern of the double that is nearest to √n smallest doubles
pub record Rooted (n bits : ℕ) : Type 0 where
  pub is : bits ≡ to_bits binary64 (rounded binary64 n)
  pub held : T (fits binary64 (rounded binary64 n))
  pub no_nan : T (not (is_nan (rounded binary64 n)))

-- how many smallest doubles the pattern of a finite double from 0 up stands for: a field of 0 has no leading digit, and counts as a field of 1
abbrev pub units_of : ℕ → ℕ
units_of bits = cond (eqb (bits / 2 ^ 52) 0) (bits % 2 ^ 52) ((bits % 2 ^ 52 + 2 ^ 52) * 2 ^ (bits / 2 ^ 52 - 1))

-- r is the whole part of √n
abbrev pub IsRoot : ℕ → ℕ → Type 0
IsRoot n r = (r * r ≤ n) × (n < (r + 1) * (r + 1))
