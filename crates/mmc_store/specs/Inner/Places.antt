-- What the code does to the lent numbers, and what it holds between two levels and between two places. Definitions only.
use Rattle.std.specs.Prelude.{ℕ, suc, ◌+◌, ◌*◌, ◌%◌, ◌<◌, ◌≤◌, max, ◌≡◌, Bool, true, false, Option, Some, None, cond, ◌&&◌, List, ltb, get_or, length, set, take, drop}
use Rattle.capture.specs.Limit.{symbol_limit}
use Rattle.table.specs.Inner.Table.{size, number, value, valued}
use Rattle.mmc_bits.specs.Levels.{levels}
use Rattle.mmc_store.specs.Levels.{level, found, guess}
use Rattle.mmc_store.specs.Inner.Words.{counts, bests, key_of, node, Kept}
use Rattle.mmc_store.specs.Inner.Ways.{Few}
use Rattle.mmc_store.specs.Inner.Answers.{spoken}

-- table t of the lent numbers
unfoldable pub part : ℕ → List ℕ → List ℕ
part t m = take size (drop (t * size) m)

abbrev pub tables : List ℕ → ℕ → List ℕ
tables m t = part t m

-- how many tables there are, and how many numbers they take
abbrev pub tables_most : ℕ
tables_most = suc levels

abbrev pub store : ℕ
store = tables_most * size

-- table t is `new` now, and every other is as it was
pub record Changed (t : ℕ) (m m' new : List ℕ) : Type 0 where
  pub long : length m' ≡ length m
  pub here : part t m' ≡ new
  pub others : (j : ℕ) → (j ≡ t → ⊥) → part j m' ≡ part j m

-- level l + 1 has counted x once more, n + 1 times, after the context c; p is their pair. No other table has changed
pub record Tallied (l c x p n : ℕ) (m m' : List ℕ) : Type 0 where
  pub long : length m' ≡ length m
  pub pair : tables m' (suc l) ≡ valued (tables m (suc l)) counts p (n + 1)
  pub context : tables m' l ≡ valued (tables m l) bests c (max (value (tables m l) bests c) (key_of (n + 1) x))
  pub others : (j : ℕ) → (j ≡ l → ⊥) → (j ≡ suc l → ⊥) → tables m' j ≡ tables m j

-- whether level l + 1 counts a pair that it has counted n times, by the entry numbers E, and what they become. `known` says whether the contexts
-- of the level and of every shorter one are present
pub data Takes (cap l : ℕ) (known : Bool) (n : ℕ) (E : List ℕ) : List ℕ → Bool → Type 0 where
  counted-again : known ≡ true → (n ≡ 0 → ⊥) → Takes cap l known n E E true
  new_entry : (known ≡ true → n ≡ 0) → get_or E l 0 < cap → Takes cap l known n E (set E l (get_or E l 0 + 1)) true
  at_the_cap : (known ≡ true → n ≡ 0) → cap ≤ get_or E l 0 → Takes cap l known n E E false

-- level l + 1 speaks, if its context is present, whose best is v, and every shorter one is `known` to be. Whether they are is r
pub record Says (v l : ℕ) (known : Bool) (G G' : List (Option ℕ)) (r : Bool) : Type 0 where
  pub known_is : r ≡ (known && ltb 0 v)
  pub said : G' ≡ cond r (set G l (Some (v % 256))) G

-- before place i, and of the first k levels after it
abbrev pub reached : ℕ → ℕ → ℕ → ℕ
reached i k l = cond (ltb l k) (suc i) i

-- the lent numbers keep what each of N levels has counted before place i, and the first k levels place i too
pub record Held (N cap : ℕ) (s : List ℕ) (i k : ℕ) (entries m : List ℕ) : Type 0 where
  pub long : length m ≡ suc N * size
  pub full : length entries ≡ N
  pub kept : Kept N s (λ l. (level cap s (reached i k l) (suc l)).places) (tables m)
  pub entries_are : (l : ℕ) → l < N → get_or entries l 0 ≡ (level cap s (reached i k l) (suc l)).entries
  pub roomy : (l : ℕ) → l < N → Few (suc N) cap s (reached i k l) (suc l) (number (tables m (suc l)))

-- before place i every level after the first l is at its cap
abbrev pub Capped : ℕ → ℕ → List ℕ → ℕ → ℕ → Type 0
Capped N cap s i l = (j : ℕ) → l ≤ j → j < N → cap ≤ (level cap s i (suc j)).entries

-- what is asked of the capture at place i
pub record Place (s : List ℕ) (i : ℕ) : Type 0 where
  pub within : i < length s
  pub short : length s ≤ symbol_limit
  pub bytes : (j : ℕ) → get_or s j 0 < 256

-- before place i: the number of each context of the place, 0 where it is missing. Then every level that is as long, or longer, is at its cap
pub record Spots (N cap : ℕ) (T : ℕ → List ℕ) (s : List ℕ) (i : ℕ) (nodes : List ℕ) : Type 0 where
  pub full : length nodes ≡ suc N
  pub each : (l : ℕ) → l < i → l < N → get_or nodes l 0 ≡ node T s l i
  pub gone : (l : ℕ) → l < i → l < N → node T s l i ≡ 0 → Capped N cap s i l
  pub beyond : (l : ℕ) → i ≤ l → get_or nodes l 0 ≡ 0

-- what the code holds before place i
pub record Stands (N cap : ℕ) (s : List ℕ) (i : ℕ) (entries nodes m : List ℕ) : Type 0 where
  pub held : Held N cap s i 0 entries m
  pub spots : Spots N cap (tables m) s i nodes

-- what all sub-predictors say of place i
pub record Said (n cap : ℕ) (s : List ℕ) (i : ℕ) (guesses : List (Option ℕ)) : Type 0 where
  pub full : length guesses ≡ n
  pub each : (j : ℕ) → j < n → get_or guesses j None ≡ spoken (guess cap s i j)

-- level l + 1 comes to place i, where x stands, its context has the number c and `known` says whether it and every shorter one are present. The
-- newer symbols of its pair have the number `carry`; where they are missing, the level and every longer one are at their caps
pub record Ready (N cap : ℕ) (s : List ℕ) (i l c x : ℕ) (known : Bool) (carry : ℕ) (entries m : List ℕ) : Type 0 where
  pub held : Held N cap s i l entries m
  pub place : Place s i
  pub x_is : x ≡ get_or s i 0
  pub one : l < N
  pub taking : l < i
  pub is : c ≡ node (tables m) s l i
  pub some : 1 ≤ c
  pub known_is : known ≡ found s (level cap s i) i (suc l)
  pub newer : carry ≡ node (tables m) s l (suc i)
  pub lost : carry ≡ 0 → Capped N cap s i l

-- level l + 1 is through with place i: r is the number of its pair there, and the other words have the numbers that they had in m
pub record Through (N cap : ℕ) (s : List ℕ) (i l r : ℕ) (m entries' m' : List ℕ) : Type 0 where
  pub held : Held N cap s i (suc l) entries' m'
  pub is : r ≡ node (tables m') s (suc l) (suc i)
  pub lost : r ≡ 0 → Capped N cap s i (suc l)
  pub others : (d j : ℕ) → d ≤ N → (d ≡ suc l → ⊥) → node (tables m') s d j ≡ node (tables m) s d j
  pub there : (j : ℕ) → (node (tables m) s (suc l) j ≡ 0 → ⊥) → node (tables m') s (suc l) j ≡ node (tables m) s (suc l) j
