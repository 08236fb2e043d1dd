-- A level has no more distinct pairs than it has counters, so the cap never acts where they are at most the cap. Assumes nothing.
use Prim.Native.Nat.{ℕ, zero, suc, ◌+◌, ◌^◌, ◌≤◌, ◌<◌, min}
use mathlib.Core.Path.{◌≡◌, sym, ◌∙◌}
use mathlib.Core.List.{List}
use native.Mathlib.Omega.{arith}
use native.Mathlib.Nat.{mod-lt, le_trans}
use lib.Dec.{leb, eqb}
use lib.Pow.{pow_pos, pow_mono}
use borrow.Author.Tests.{eqb-true, eqb-false, leb-true, leb-false}
use Rattle.mmc_bits.specs.Levels.{levels, cap}
use Rattle.mmc_bits.specs.Inner.Steps.{Bits, distinct}
use Rattle.mmc_bits.specs.Counters.{before, context, pair, occurs, counter}
use Rattle.race.proofs.Cases.{tested}
use Rattle.mmc_bits.proofs.Counting.{occurs_same, occurs_more, distinct_new, distinct_old, distinct_early, ahead_lt, counter_none, counter_low}

-- the levels below the last have at most as many pairs as the cap
pub room : 2 ^ levels ≤ cap
room = omega arith

-- of the pairs below n, those that occurred before place i
unfoldable pub seen : ℕ → List ℕ → ℕ → ℕ → ℕ
seen L b zero i = 0
seen L b (suc n) i = seen L b n i + min 1 (occurs L b n i)

seen_le : (L : ℕ) (b : List ℕ) (n i : ℕ) → seen L b n i ≤ n
unfolding seen
seen_le L b zero i = omega arith
seen_le L b (suc n) i = omega (arith, seen_le L b n i)

seen_more : (L : ℕ) (b : List ℕ) (n i : ℕ) → seen L b n i ≤ seen L b n (suc i)
unfolding seen
seen_more L b zero i = omega arith
seen_more L b (suc n) i = omega (arith, seen_more L b n i, occurs_more L b n i)

seen_new : (L : ℕ) (b : List ℕ) (n i : ℕ) → L ≤ i → occurs L b (pair L b i) i ≡ 0 → pair L b i < n → suc (seen L b n i) ≤ seen L b n (suc i)
unfolding seen
seen_new L b zero i h e l = absurd (omega arith)
seen_new L b (suc n) i h e l = tested (eqb (pair L b i) n)
    (λ t. let q : pair L b i ≡ n = eqb-true _ _ t in
    let z : occurs L b n i ≡ 0 = rw q at e in
    omega (arith, seen_more L b n i, occurs_same L b n i h q))
    (λ t. let q : pair L b i ≡ n → ⊥ = eqb-false _ _ t in
    omega (arith, seen_new L b n i h e (omega arith), occurs_more L b n i))

distinct_seen : (L : ℕ) (b : List ℕ) (n : ℕ) → ((j : ℕ) → pair L b j < n) → (i : ℕ) → distinct L b i ≤ seen L b n i
distinct_seen L b n f zero = omega (arith, distinct_early L b 0 (omega arith))
distinct_seen L b n f (suc i) = tested (leb (suc i) L)
    (λ t. omega (arith, distinct_early L b (suc i) (leb-true _ _ t)))
    (λ t. tested (eqb (occurs L b (pair L b i) i) 0)
    (λ u. let h : L < suc i = leb-false _ _ t in
    omega (arith, distinct_new L b i (omega arith) (eqb-true _ _ u), seen_new L b n i (omega arith) (eqb-true _ _ u) (f i), distinct_seen L b n f i))
    (λ u. omega (arith, distinct_old L b i (eqb-false _ _ u), seen_more L b n i, distinct_seen L b n f i)))

pub context_lt : (L : ℕ) (b : List ℕ) (i : ℕ) → context L b i < 2 ^ L
unfolding context
context_lt L b i = mod-lt (before b i) (pow_pos L)

pub pair_lt : (L : ℕ) (b : List ℕ) → Bits b → (j : ℕ) → pair L b j < 2 ^ suc L
unfolding pair
pair_lt L b bs j = omega (arith, context_lt L b j, bs j)

pub distinct_le : (L : ℕ) (b : List ℕ) → Bits b → (i : ℕ) → distinct L b i ≤ 2 ^ suc L
distinct_le L b bs i = omega (arith, distinct_seen L b (2 ^ suc L) (pair_lt L b bs) i, seen_le L b (2 ^ suc L) i)

-- the cap never acts at a level that has at most as many pairs: its counters are the plain numbers of occurrences
pub counter_plain : (cap L : ℕ) (b : List ℕ) (k i : ℕ) → Bits b → 2 ^ suc L ≤ cap → counter cap L b k i ≡ occurs L b k i
counter_plain cap L b k i bs h = tested (eqb (occurs L b k i) 0)
    (λ t. counter_none cap L b k i (eqb-true _ _ t) ∙ sym (eqb-true _ _ t))
    (λ t. let n : occurs L b k i ≡ 0 → ⊥ = eqb-false _ _ t in
    counter_low cap L b k i (omega (arith, ahead_lt L b k i (omega arith), distinct_le L b bs i)))

-- below level n, where level n - 1 has at most as many pairs
pub plain_below : (cap n L : ℕ) (b : List ℕ) (k i : ℕ) → Bits b → 2 ^ n ≤ cap → L < n → counter cap L b k i ≡ occurs L b k i
plain_below cap n L b k i bs h l = counter_plain cap L b k i bs (le_trans (pow_mono {i = suc L} {j = n} l) h)
