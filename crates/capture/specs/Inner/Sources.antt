-- A source of bits: its bytes and the bits taken of each, and a walk over them by counting, without a division. Definitions only.
use Rattle.std.specs.Prelude.{ℕ, ◌+◌, ◌*◌, ◌-◌, ◌≤◌, ◌<◌, List, length, drop, get_or}
use Rattle.capture.specs.Bits.{all_bits}
use Rattle.capture.specs.Limit.{symbol_limit}

-- `width` bits of each symbol are a source
pub record IsSource (symbols : List ℕ) (width : ℕ) : Type 0 where
  pub short : length symbols ≤ symbol_limit
  pub some : 0 < width
  pub narrow : width ≤ 8

-- zeros and ones, far fewer than a u64 holds
pub record AreBits (bits : List ℕ) : Type 0 where
  pub short : length bits < 4294967296
  pub below : (i : ℕ) → i < length bits → get_or bits i 0 < 2

-- a walk over them, whose next bit has `after` others of its byte after it
pub record IsWalk (symbols : List ℕ) (width at after : ℕ) : Type 0 where
  pub source : IsSource symbols width
  pub inside : after < width

-- the bits from there on
unfoldable pub bits_left : List ℕ → ℕ → ℕ → ℕ → List ℕ
bits_left symbols width at after = drop (at * width + (width - 1 - after)) (all_bits symbols width)
