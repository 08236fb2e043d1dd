-- How the candidates go on by one place. Definitions only.
use Rattle.std.specs.Prelude.{◌≡◌, Bool, cond, ℕ, ◌-◌, ◌*◌, ◌/◌, ◌≤◌, ◌<◌, max, eqb, leb}
use Rattle.lanes.specs.Inner.Lanes.{lane, marked, Low}
use Rattle.mcw_symbols.specs.Inner.Ask.{LowAll}
use Rattle.mcw_symbols.specs.declared.Candidates.{Candidates}

-- the key m of the candidate f once d has left
abbrev pub spent : ℕ → ℕ → ℕ → ℕ
spent d f m = cond (eqb d f) (m / 2 * 2 - 2) m

-- of the keys m of the candidate and n of the symbol that comes, how often the loser stands, doubled; 0 where that symbol is the candidate
abbrev pub loser_of : Bool → ℕ → ℕ → ℕ
loser_of t m n = cond t 0 (cond (leb m n) m n / 2 * 2)

pub record Advanceable (c : Candidates) (alike x gone key : ℕ) : Type 0 where
  pub low : LowAll c
  pub x_low : Low x
  pub gone_low : Low gone
  pub key_low : Low key
  pub alike_is : (j : ℕ) → j < 4 → lane alike j ≡ marked (eqb (lane x j) (lane c.symbols j))
  pub enough : (j : ℕ) → j < 4 → lane gone j ≡ lane c.symbols j → 2 ≤ lane c.keys j

-- window j's candidate, which has the key m once a sample has left
pub record AdvancesTo (c : Candidates) (x key : ℕ) (r : Candidates) (j m : ℕ) : Type 0 where
  pub symbol_is : lane r.symbols j ≡ cond (leb m (lane key j)) (lane x j) (lane c.symbols j)
  pub key_is : lane r.keys j ≡ cond (leb m (lane key j)) (lane key j) m
  pub bound_is : lane r.bounds j ≡ max (loser_of (eqb (lane x j) (lane c.symbols j)) m (lane key j)) (lane c.bounds j)

pub record Advances (c : Candidates) (x gone key : ℕ) (r : Candidates) : Type 0 where
  pub each : (j : ℕ) → j < 4 → AdvancesTo c x key r j (spent (lane gone j) (lane c.symbols j) (lane c.keys j))
