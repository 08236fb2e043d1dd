-- A table of numbered entries in a slice of numbers, found by their keys. Entries have the numbers 1, 2, .. in the order in which they were
-- made, and 0 is none. Each has a key, two links and two values. The keys of one residue are a tree, in which the binary digits of the quotient
-- lead the way: an entry that is made stands where a walk for its key ends.
-- Assumes nothing.
use Rattle.std.specs.Prelude.{ℕ, zero, suc, ◌+◌, ◌*◌, ◌/◌, ◌%◌, ◌≤◌, ◌<◌, ◌≡◌, cond, ◌&&◌, List, length, get_or, set, eqb, ltb}

-- how many numbers a table has, how many entries it has room for, how many trees there are, and what every key is below
abbrev pub size : ℕ
size = 655360

abbrev pub room : ℕ
room = 100020

abbrev pub trees : ℕ
trees = 131071

abbrev pub key_limit : ℕ
key_limit = 256 * (room + 1)

-- the first entry of tree k stands at k, then how many entries there are, then the entries: key, the links 0 and 1, and the values 0 and 1
abbrev pub number_at : ℕ
number_at = trees

abbrev pub key_at : ℕ → ℕ
key_at e = (trees + 1) + 5 * e

abbrev pub link_at : ℕ → ℕ → ℕ
link_at b e = (trees + 2 + b) + 5 * e

abbrev pub value_at : ℕ → ℕ → ℕ
value_at j e = (trees + 4 + j) + 5 * e

abbrev pub get : List ℕ → ℕ → ℕ
get m a = get_or m a 0

abbrev pub number : List ℕ → ℕ
number m = get m number_at

abbrev pub key : List ℕ → ℕ → ℕ
key m e = get m (key_at e)

-- value j of entry e
abbrev pub value : List ℕ → ℕ → ℕ → ℕ
value m j e = get m (value_at j e)

-- the entry with the key k, the newest of 1 .. n that has it, and 0 where there is none
unfoldable pub newest : List ℕ → ℕ → ℕ → ℕ
newest m k zero = 0
newest m k (suc n) = cond (eqb (key m (suc n)) k) (suc n) (newest m k n)

unfoldable pub entry_of : List ℕ → ℕ → ℕ
entry_of m k = newest m k (number m)

-- what is left after d of the binary digits of a key's quotient, above which stands a 1; digit d; and the tree with the first d digits, as one number
unfoldable pub rest : ℕ → ℕ → ℕ
rest zero k = k / trees + 256
rest (suc d) k = rest d k / 2

abbrev pub digit : ℕ → ℕ → ℕ
digit d k = rest d k % 2

unfoldable pub lead : ℕ → ℕ → ℕ
lead zero k = k % trees
lead (suc d) k = 2 * lead d k + digit d k

-- where a walk for the key k reads after d steps, the head of its tree and then a link of the entry at which it stands; and that entry, 0 at the end
unfoldable pub slot_at : List ℕ → ℕ → ℕ → ℕ
slot_at m k zero = k % trees
slot_at m k (suc d) = link_at (digit d k) (get m (slot_at m k d))

abbrev pub stop : List ℕ → ℕ → ℕ → ℕ
stop m k d = get m (slot_at m k d)

-- m is a table. `depth e` is how many entries a walk meets before entry e + 1; behind the entries nothing was written yet
pub record Table (m : List ℕ) : Type 0 where
  pub long : length m ≡ size
  pub few : number m ≤ room
  pub below : (e : ℕ) → e < number m → key m (suc e) < key_limit
  pub distinct : (e : ℕ) → e < number m → entry_of m (key m (suc e)) ≡ suc e
  pub none : (j : ℕ) → j < 2 → value m j 0 ≡ 0
  pub nowhere : (b : ℕ) → b < 2 → get m (link_at b 0) ≡ 0
  pub fresh : (a : ℕ) → key_at (suc (number m)) ≤ a → get m a ≡ 0
  pub depth : ℕ → ℕ
  pub reached : (e : ℕ) → e < number m → stop m (key m (suc e)) (depth e) ≡ suc e
  pub alike : (k d e : ℕ) → stop m k d ≡ suc e → (e < number m) × (depth e ≡ d) × (lead d (key m (suc e)) ≡ lead d k)

-- "a walk meets at most 9 entries": one that it meets after 8 others has the key, so that a walk for a missing key ends after at most 8 steps
abbrev pub deepest : ℕ
deepest = 8

-- after how many steps a walk ends that has taken d, if it takes at most n more; and where the number of a missing key's entry belongs
unfoldable pub end_from : List ℕ → ℕ → ℕ → ℕ → ℕ
end_from m k zero d = d
end_from m k (suc n) d = cond (eqb (stop m k d) 0) d (end_from m k n (suc d))

abbrev pub slot_of : List ℕ → ℕ → ℕ
slot_of m k = slot_at m k (end_from m k deepest 0)

-- at r stands the number of the key's entry; where it is missing, r is where its number belongs
pub record Sought (m : List ℕ) (k r : ℕ) : Type 0 where
  pub here : get m r ≡ entry_of m k
  pub within : r < size
  pub slot : entry_of m k ≡ 0 → r ≡ slot_of m k

-- entry e of the key k is made, whose links and values are 0 as they were, and its number stands at `slot`: the next entry, where a walk for k ends
abbrev pub written : List ℕ → ℕ → ℕ → ℕ → List ℕ
written m k slot e = set (set (set m (key_at e) k) slot e) number_at e

unfoldable pub added : List ℕ → ℕ → List ℕ
added m k = written m k (slot_of m k) (suc (number m))

-- where the key is missing, an entry is made if there is room
unfoldable pub grown : List ℕ → ℕ → List ℕ
grown m k = cond (ltb (number m) room && eqb (entry_of m k) 0) (added m k) m

-- value j of entry e is v now
abbrev pub valued : List ℕ → ℕ → ℕ → ℕ → List ℕ
valued m j e v = set m (value_at j e) v
