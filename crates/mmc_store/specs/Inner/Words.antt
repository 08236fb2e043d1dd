-- Which entry stands for the symbols before a place, and what the tables keep. Definitions only.
-- Table l has the words of l + 1 symbols that were seen: the contexts of level l + 1. A word of l + 2 symbols is its l + 1 older symbols, and its
-- newest symbol. So the pairs of level l + 1, a context with the symbol that followed it, are the words of table l + 1, and each of them is the
-- context of level l + 2 at the next place.
use Rattle.std.specs.Prelude.{ℕ, zero, suc, ◌+◌, ◌-◌, ◌*◌, ◌≤◌, ◌<◌, ◌≡◌, cond, List, get_or, length}
use Rattle.table.specs.Inner.Table.{Table, size, number, key, value, entry_of}
use Rattle.mmc_store.specs.Counts.{present, count, predicted}

-- the two values of a word: how often it was counted as a pair, and the best of what followed it as a context
abbrev pub counts : ℕ
counts = 0

abbrev pub bests : ℕ
bests = 1

-- a word is known by the number of its older symbols, and its newest symbol
abbrev pub key_of : ℕ → ℕ → ℕ
key_of c x = c * 256 + x

-- the number of the l + 1 symbols before place i, and 0 where they are missing. That of a single symbol is one more than the symbol
unfoldable pub node : (ℕ → List ℕ) → List ℕ → ℕ → ℕ → ℕ
node T s zero i = suc (get_or s (i - 1) 0)
node T s (suc l) i = entry_of (T (suc l)) (key_of (node T s l (i - 1)) (get_or s (i - 1) 0))

-- how many numbers words of l + 1 symbols may have
unfoldable pub words : (ℕ → List ℕ) → ℕ → ℕ
words T zero = 256
words T (suc l) = number (T (suc l))

-- the keys of a table are made of numbers from 1 to n, and symbols
pub record Keyed (n : ℕ) (m : List ℕ) : Type 0 where
  pub table : Table m
  pub from : (e : ℕ) → e < number m → 256 ≤ key m (suc e)
  pub to : (e : ℕ) → e < number m → key m (suc e) < 256 * suc n

-- the words of 2 .. n + 1 symbols: each is one symbol longer than one that is there
abbrev pub Trie : ℕ → (ℕ → List ℕ) → Type 0
Trie n T = (l : ℕ) → l < n → Keyed (words T l) (T (suc l))

-- what is kept of the predicted symbol: how often it was counted, and the symbol; 0 where the context is absent
unfoldable pub best : List ℕ → ℕ → List ℕ → ℕ → ℕ
best s L h i = cond (present s L h i) (key_of (count s L h i (predicted s L h i)) (predicted s L h i)) 0

-- the tables c and p keep what level L counted at the places h, where the context of i has the number `at i` in c
pub record Stores (s : List ℕ) (L : ℕ) (h : List ℕ) (at : ℕ → ℕ) (c p : List ℕ) : Type 0 where
  pub counts_are : (i x : ℕ) → x < 256 → count s L h i x ≡ value p counts (entry_of p (key_of (at i) x))
  pub bests_are : (i : ℕ) → best s L h i ≡ value c bests (at i)

-- the tables keep what each of N levels has counted: level l + 1 the places h l
pub record Kept (N : ℕ) (s : List ℕ) (h T : ℕ → List ℕ) : Type 0 where
  -- a single symbol has its number without an entry: table 0 has values alone
  pub root : length (T 0) ≡ size
  pub trie : Trie N T
  pub stores : (l : ℕ) → l < N → Stores s (suc l) (h l) (node T s l) (T l) (T (suc l))
  -- where the newer symbols before a place are missing, so are the longer words
  pub closed : (l i : ℕ) → l < N → node T s l i ≡ 0 → node T s (suc l) i ≡ 0
