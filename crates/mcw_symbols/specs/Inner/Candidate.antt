-- A candidate for the commonest symbol of a window, with a bound on how often the others stand there. Definitions only.
use Rattle.std.specs.Prelude.{◌≡◌, ℕ, ◌+◌, ◌*◌, ◌≤◌, ◌<◌}

-- f stands more often than y, or as often and is seen later
pub record Beats (count last : ℕ → ℕ) (f y : ℕ) : Type 0 where
  pub no_more : count y ≤ count f
  pub earlier : count f ≤ count y → last y < last f

-- of the symbols below n none stands more often than f, and none that stands as often is seen later
pub record Foremost (count last : ℕ → ℕ) (n f : ℕ) : Type 0 where
  pub no_more : (y : ℕ) → y < n → count y ≤ count f
  pub no_later : (y : ℕ) → y < n → count f ≤ count y → last y ≤ last f

-- m is twice the count of the candidate f, or one more where f is seen later than every symbol that stands as often or more often;
-- o is at least twice the count of every other symbol below k
pub record Candidate (count last : ℕ → ℕ) (k f m o : ℕ) : Type 0 where
  pub within : f < k
  pub least : 2 * count f ≤ m
  pub most : m ≤ 2 * count f + 1
  pub latest : m ≡ 2 * count f + 1 → (y : ℕ) → y < k → (y ≡ f → ⊥) → count f ≤ count y → last y < last f
  pub bound : (y : ℕ) → y < k → (y ≡ f → ⊥) → 2 * count y ≤ o
