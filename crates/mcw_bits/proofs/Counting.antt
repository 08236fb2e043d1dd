-- How often a symbol stands among the first samples. Assumes nothing.
use mathlib.Core.Path.{◌≡◌, sym, ap}
use mathlib.Core.Bool.{Bool, true, false}
use mathlib.Core.List.{List, [], ◌∷◌, ◌++◌}
use Prim.Native.Nat.{ℕ, suc, ◌+◌, ◌-◌, ◌≤◌, ◌<◌}
use native.Mathlib.Nat.{zero-add}
use native.Mathlib.Numerals.{add-one}
use native.Mathlib.Omega.{arith}
use lib.Dec.{eqb}
use lib.ListN.{length, get_or, take, drop, length-take}
use lib.Seq.{take-suc, take-add}
use borrow.Author.Tests.{eq-eqb, ne_eqb}
use Rattle.mcw_bits.specs.Inner.Counts.{before}
use Rattle.capture.specs.Bits.{one}
use Rattle.mcw_bits.specs.Commonest.{occurrences}

pub occ_append : (x : ℕ) (a b : List ℕ) → occurrences x (a ++ b) ≡ occurrences x a + occurrences x b
unfolding occurrences
occ_append x [] b = sym (zero-add (occurrences x b))
occ_append x (y ∷ a) b = omega (arith, occ_append x a b)

one_le : (b : Bool) → one b ≤ 1
one_le true = omega arith
one_le false = omega arith

occ_le : (x : ℕ) (a : List ℕ) → occurrences x a ≤ length a
unfolding occurrences
occ_le x [] = omega arith
occ_le x (y ∷ a) = omega (arith, one_le (eqb x y), occ_le x a)

before_suc : (s : List ℕ) (x i : ℕ) → i < length s → before s x (suc i) ≡ before s x i + one (eqb x (get_or s i 0))
unfolding occurrences
before_suc s x i h = rw (take-suc s i 0, occ_append) (ap (λ (n : ℕ). before s x i + n) (omega arith))

pub before_same : (s : List ℕ) (x i : ℕ) → i < length s → get_or s i 0 ≡ x → before s x (i + 1) ≡ before s x i + 1
before_same s x i h e = rw (add-one i, before_suc s x i h, eq-eqb x (get_or s i 0) (sym e))

pub before_other : (s : List ℕ) (x i : ℕ) → i < length s → (get_or s i 0 ≡ x → ⊥) → before s x (i + 1) ≡ before s x i
before_other s x i h e = rw (add-one i, before_suc s x i h, ne_eqb x (get_or s i 0) (λ q. e (sym q))) (omega arith)

pub before_le : (s : List ℕ) (x i : ℕ) → before s x i ≤ i
before_le s x i = omega (arith, occ_le x (take i s), length-take i s)

-- what a part has, and what stands before it
pub occ_part : (s : List ℕ) (x lo n : ℕ) → occurrences x (take n (drop lo s)) + before s x lo ≡ before s x (lo + n)
occ_part s x lo n = rw (take-add lo n s, occ_append) (omega arith)

pub before_mono : (s : List ℕ) (x lo hi : ℕ) → lo ≤ hi → before s x lo ≤ before s x hi
before_mono s x lo hi h =
    let e : lo + (hi - lo) ≡ hi = omega arith in
    let p : occurrences x (take (hi - lo) (drop lo s)) + before s x lo ≡ before s x hi = rw e at (occ_part s x lo (hi - lo)) in
    omega arith
