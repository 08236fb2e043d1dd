-- What is counted over the samples. Definitions only.
use Rattle.std.specs.Prelude.{List, ℕ, take}
use Rattle.mcw_bits.specs.Commonest.{occurrences}

-- how often x stands among the first i samples
abbrev pub before : List ℕ → ℕ → ℕ → ℕ
before s x i = occurrences x (take i s)
