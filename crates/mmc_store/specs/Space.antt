-- The lent numbers. Definitions only.
use Rattle.std.specs.Prelude.{ℕ, ◌*◌, List, ◌++◌, drop, replicate}

-- how many numbers n levels take, 2^20 each: "general MultiMMC needs 16,777,216 u32 numbers"
unfoldable pub size : ℕ → ℕ
size n = n * 1048576

-- "The first 16,777,216 numbers of general space are zero. All beyond the stated size is unchanged."
unfoldable pub final : ℕ → List ℕ → List ℕ
final n space = replicate (size n) 0 ++ drop (size n) space
