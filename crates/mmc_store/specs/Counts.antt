-- What a level's counted places say of a context. Definitions only.
-- s is the list of symbols, L a level's prefix length, h the places that the level has counted, i and j places. The context of a place is the
-- L symbols before it, and its symbol is the one that stands there.
use Rattle.std.specs.Prelude.{ℕ, zero, suc, ◌+◌, ◌-◌, Bool, true, false, cond, ◌&&◌, ◌||◌, List, [], ◌∷◌, get_or, eqb, leb}

-- the places a and b have the same context
unfoldable pub same : List ℕ → ℕ → ℕ → ℕ → Bool
same s zero a b = true
same s (suc L) a b = eqb (get_or s (a - suc L) 0) (get_or s (b - suc L) 0) && same s L a b

-- "a context is present .. or absent": some counted place has the context of i
unfoldable pub present : List ℕ → ℕ → List ℕ → ℕ → Bool
present s L [] i = false
present s L (j ∷ h) i = same s L j i || present s L h i

-- how many counted places have the context of i and the symbol x
unfoldable pub count : List ℕ → ℕ → List ℕ → ℕ → ℕ → ℕ
count s L [] i x = 0
count s L (j ∷ h) i x = count s L h i x + cond (same s L j i && eqb (get_or s j 0) x) 1 0

-- the symbol below n at which f is largest: "The largest count wins, a tie going to the larger symbol."
unfoldable pub largest : (ℕ → ℕ) → ℕ → ℕ
largest f zero = 0
largest f (suc n) = cond (leb (f (largest f n)) (f n)) n (largest f n)

-- "its predicted symbol", of the context of i
unfoldable pub predicted : List ℕ → ℕ → List ℕ → ℕ → ℕ
predicted s L h i = largest (count s L h i) 256
