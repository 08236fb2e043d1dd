-- The lent counters. Definitions only.
use Rattle.std.specs.Prelude.{ℕ, zero, suc, ◌-◌, ◌^◌, List, [], ◌++◌, drop, length}
use Rattle.capture.specs.Bits.{table}
use Rattle.mmc_bits.specs.Counters.{counter}

-- level L's counters before place i: it "has 2^(L+1) counters: context times two, plus next bit"
unfoldable pub part : ℕ → ℕ → List ℕ → ℕ → List ℕ
part cap L b i = table (2 ^ suc L) (λ k. counter cap L b k i)

-- those of n levels from level L on, one level after the other, so that, from level 1 on, "level L starts at 2^(L+1) - 4"
unfoldable pub span : ℕ → ℕ → ℕ → List ℕ → ℕ → List ℕ
span cap L zero b i = []
span cap L (suc n) b i = part cap L b i ++ span cap (suc L) n b i

-- how many numbers n levels take, 2^(n+2) - 4: for 16 levels, 262,140
unfoldable pub size : ℕ → ℕ
size n = 2 ^ suc (suc n) - 4

-- "After the run the counters cover all places up to the last." "All beyond the stated size is unchanged."
abbrev pub final : ℕ → ℕ → List ℕ → List ℕ → List ℕ
final n cap b space = span cap 1 n b (length b) ++ drop (size n) space
