-- Four lanes of 16 binary digits in one word of 64. Definitions only.
use Rattle.std.specs.Prelude.{◌≡◌, Bool, cond, ◌⊎◌, ℕ, ◌*◌, ◌/◌, ◌%◌, ◌^◌, ◌≤◌, ◌<◌}

-- lane j of a word, lane 0 lowest
unfoldable pub lane : ℕ → ℕ → ℕ
lane w j = w / 2 ^ (16 * j) % 65536

-- the highest digit of a lane: the mark, by which a lane says yes
abbrev pub half : ℕ
half = 32768

abbrev pub marked : Bool → ℕ
marked b = cond b half 0

-- each lane leaves room for the mark
pub record Low (w : ℕ) : Type 0 where
  pub each : (j : ℕ) → j < 4 → lane w j < half

-- each lane is the mark or nothing
pub record Marks (w : ℕ) : Type 0 where
  pub each : (j : ℕ) → j < 4 → (lane w j ≡ 0) ⊎ (lane w j ≡ half)

-- what `lose` needs: a marked lane of m can lose 2
pub record Losable (marks m : ℕ) : Type 0 where
  pub marks_are : Marks marks
  pub low : Low m
  pub enough : (j : ℕ) → j < 4 → lane marks j ≡ half → 2 ≤ lane m j

-- `at` is where a lane begins
pub record Begins (at : ℕ) : Type 0 where
  pub inside : at < 64
  pub whole : at % 16 ≡ 0
