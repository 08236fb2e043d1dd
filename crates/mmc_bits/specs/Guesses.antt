-- What the levels of MultiMMC on bits say of a place. Definitions only.
use Rattle.std.specs.Prelude.{ℕ, zero, suc, ◌+◌, ◌*◌, cond, List, ltb, eqb}
use Rattle.race.specs.Race.{Guess, silent, says}
use Rattle.mmc_bits.specs.Counters.{context, counter}

-- "A level predicts 0 only if 0 has the strictly larger count. A context with no count predicts nothing"
unfoldable pub verdict : ℕ → ℕ → Guess
verdict zeros ones = cond (eqb (zeros + ones) 0) silent (says (cond (ltb ones zeros) 0 1))

-- what level L says of place i by its own counters
unfoldable pub own : ℕ → ℕ → List ℕ → ℕ → Guess
own cap L b i = verdict (counter cap L b (context L b i * 2) i) (counter cap L b (context L b i * 2 + 1) i)

-- "and neither do longer ones at that place": what a level says where the next shorter one says g
abbrev pub behind : Guess → Guess → Guess
behind silent mine = silent
behind (says x) mine = mine

-- what sub-predictor d, the level of prefix length d + 1, says of place i. "levels L <= place - 1 take part": up to place L a level has no
-- history, so it is silent by the rule above
unfoldable pub guess : ℕ → List ℕ → ℕ → ℕ → Guess
guess cap b i zero = own cap 1 b i
guess cap b i (suc d) = behind (guess cap b i d) (own cap (suc (suc d)) b i)
