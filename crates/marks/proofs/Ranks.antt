-- The numbers in rising order, counted up over the table of the values that were seen. Assumes nothing.
use mathlib.Core.Path.{◌≡◌, refl, ap, ◌∙◌}
use mathlib.Core.Bool.{Bool, true, false}
use mathlib.Core.List.{List}
use Prim.Native.Nat.{ℕ, ◌+◌, ◌≤◌, ◌<◌}
use native.Mathlib.Numerals.{add-one}
use native.Mathlib.Omega.{arith}
use native.Mathlib.Decide.{ℕ_discrete}
use mir.Val.{bool_byte}
use lib.ListN.{length, get_or, set}
use lib.Seq.{get_or-set_same, get_or-set_other}
use Rattle.capture.specs.Bits.{one}
use Rattle.alphabet.specs.Alphabet.{distinct, distinct_below, rising}
use Rattle.alphabet.proofs.Distinct.{below_le}
use Rattle.marks.specs.Inner.Ranks.{Ranks}
use Rattle.marks.specs.Inner.Seen.{Seen}

pub rising_none : (s : List ℕ) → rising s 0 ≡ 0
unfolding rising distinct_below
rising_none s = refl

rising_all : (s : List ℕ) → rising s 256 ≡ distinct s
unfolding rising distinct
rising_all s = refl

pub rising_le : (s : List ℕ) (v : ℕ) → rising s v ≤ v
unfolding rising
rising_le s v = below_le v s

-- a mark counts one
byte_one : (b : Bool) → bool_byte b ≡ one b
byte_one true = refl
byte_one false = refl

pub rising_next : {s : List ℕ} {m : List Bool} → Seen s m → (v : ℕ) → v < 256 → {x : ℕ} → x ≡ bool_byte (get_or m v false)
    → rising s (v + 1) ≡ rising s v + x
unfolding rising distinct_below
rising_next {s} {m} h v l e = rw (add-one v, e, ← h.at v l, byte_one (get_or m v false)) refl

-- one number more
pub ranked_next : (s n : List ℕ) (v : ℕ) {x : ℕ} → v < length n → ((u : ℕ) → u < v → get_or n u 0 ≡ rising s u) → x ≡ rising s v
    → (u : ℕ) → u < v + 1 → get_or (set n v x) u 0 ≡ rising s u
ranked_next s n v {x} l h e u k = pick (ℕ_discrete u v)
  where
    pick : Dec (u ≡ v) → get_or (set n v x) u 0 ≡ rising s u
    pick (yes q) = rw q (get_or-set_same n v x 0 l ∙ e)
    pick (no q) = get_or-set_other n v u x 0 q ∙ h u (omega arith)

-- all of them
pub ranks : {s n : List ℕ} {v x : ℕ} → v ≡ 256 → length n ≡ 256 → x ≡ rising s v → ((u : ℕ) → u < v → get_or n u 0 ≡ rising s u) → Ranks s n x
ranks {s} e l q h = record { table = record { full = l; at = λ u k. h u (omega arith) }; count = q ∙ ap (rising s) e ∙ rising_all s }
