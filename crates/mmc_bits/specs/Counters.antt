-- The counters of a level of MultiMMC on bits, read from the whole history. Definitions only.
-- b is the list of bits, L a level's prefix length, i and j places of b, and k a pair: context times two, plus next bit.
use Rattle.std.specs.Prelude.{ℕ, zero, suc, ◌+◌, ◌*◌, ◌%◌, ◌^◌, Bool, ◌&&◌, cond, List, get_or, leb, ltb, eqb}
use Rattle.capture.specs.Bits.{one}

-- the number whose binary digits are the first i bits, "the oldest bit highest"
unfoldable pub before : List ℕ → ℕ → ℕ
before b zero = zero
before b (suc i) = before b i * 2 + get_or b i 0

-- level L's context at place i: the L bits just before it, where L ≤ i
unfoldable pub context : ℕ → List ℕ → ℕ → ℕ
context L b i = before b i % 2 ^ L

-- the pair at place j: its context, and the bit that followed it
unfoldable pub pair : ℕ → List ℕ → ℕ → ℕ
pair L b j = context L b j * 2 + get_or b j 0

-- how many places j with from ≤ j < i pass a test
unfoldable pub places : (ℕ → Bool) → ℕ → ℕ → ℕ
places p from zero = zero
places p from (suc i) = places p from i + one (leb from i && p i)

-- "the number of places j, L <= j < i, where that bit followed that context"
unfoldable pub occurs : ℕ → List ℕ → ℕ → ℕ → ℕ
occurs L b k i = places (λ j. eqb (pair L b j) k) L i

-- the pair at place j occurred at no earlier place
unfoldable pub fresh : ℕ → List ℕ → ℕ → Bool
fresh L b j = eqb (occurs L b (pair L b j) j) 0

-- how many distinct pairs occurred before place i, when k had not occurred yet
unfoldable pub ahead : ℕ → List ℕ → ℕ → ℕ → ℕ
ahead L b k i = places (λ j. fresh L b j && eqb (occurs L b k (suc j)) 0) L i

-- "this holds for the first [cap] distinct pairs by place; every other pair has 0"
unfoldable pub counter : ℕ → ℕ → List ℕ → ℕ → ℕ → ℕ
counter cap L b k i = cond (ltb (ahead L b k i) cap) (occurs L b k i) 0
