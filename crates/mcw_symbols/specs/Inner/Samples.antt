-- The samples of the literal track, and how often and how late a symbol stands in a window of them. Definitions only.
use Rattle.std.specs.Prelude.{cond, List, ℕ, zero, suc, ◌-◌, ◌≤◌, ◌<◌, eqb, length, get_or}
use Rattle.mcw_bits.specs.Inner.Counts.{before}

-- every sample is below k, k is at most 256, and the samples are fewer than 2^32 - 1
pub record Samples (s : List ℕ) (k : ℕ) : Type 0 where
  pub some : 0 < k
  pub few : k ≤ 256
  pub short : length s < 4294967295
  pub below : (i : ℕ) → i < length s → get_or s i 0 < k

-- one more than the latest place before i at which s has x; 0 where there is none
unfoldable pub last : List ℕ → ℕ → ℕ → ℕ
last s x zero = 0
last s x (suc i) = cond (eqb x (get_or s i 0)) (suc i) (last s x i)

-- for each symbol, its latest place before i, as above
abbrev pub latest_at : List ℕ → ℕ → (ℕ → ℕ)
latest_at s i = λ y. last s y i

-- for each symbol, how often it stands among the w samples before place i, of which there are fewer while the window grows
abbrev pub counts_at : List ℕ → ℕ → ℕ → (ℕ → ℕ)
counts_at s i w = λ y. before s y i - before s y (i - w)
