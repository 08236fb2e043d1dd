-- What the two numberings promise to whoever counts symbols: numbers below the size, as many as there are values, one for each value. Assumes nothing.
use mathlib.Core.Path.{◌≡◌, refl, ap, sym, ◌∙◌}
use mathlib.Core.Bool.{Bool, true, false, cond, ◌||◌}
use mathlib.Core.List.{List, [], ◌∷◌, ◌++◌, map}
use mathlib.Core.Logic.{⊎_elim}
use Prim.Native.Nat.{ℕ, zero, suc, pred, ◌≤◌, ◌<◌}
use native.Mathlib.Decide.{ℕ_discrete, dec_le}
use native.Mathlib.Nat.{eq-or-lt_of_le, le_of_suc-le-suc, le_antisymm, lt_of_not-le}
use native.Mathlib.Omega.{arith}
use borrow.Author.Tests.{ne_eqb, eqb-true}
use lib.Dec.{eqb}
use lib.ListN.{length, get_or, take}
use lib.Seq.{take-suc, take-length}
use Rattle.capture.specs.Bits.{one}
use Rattle.alphabet.specs.Alphabet.{has, distinct, distinct_below, up_to, first_sight, rising, dense, sorted}
use Rattle.alphabet.proofs.Membership.{has_at, none_in_nil, same_cut, snoc_same, up_to_in, up_to_not}
use Rattle.alphabet.proofs.Distinct.{distinct_lt, distinct_more, distinct_same, distinct_nil}

-- every symbol is a byte
abbrev pub Bytes : List ℕ → Type 0
Bytes s = (i : ℕ) → i < length s → get_or s i 0 < 256

map_below : (f : ℕ → ℕ) (k : ℕ) (s : List ℕ) (i : ℕ) → i < length s → f (get_or s i 0) < k → get_or (map f s) i 0 < k
map_below f k [] i l h = omega arith
map_below f k (x ∷ s) zero l h = h
map_below f k (x ∷ s) (suc i) l h = map_below f k s i (le_of_suc-le-suc l) h

-- the number of a value that stands in s is below the size
pub sight_below : (s : List ℕ) (x : ℕ) → has x s ≡ true → x < 256 → first_sight s x < distinct s
unfolding first_sight
sight_below s x h l = distinct_lt (up_to x s) s (λ v. up_to_in v x s) x (up_to_not x s) h l

-- a smaller value that stands in s has a smaller number
below_rises : (s : List ℕ) (x : ℕ) → has x s ≡ true → (y : ℕ) → x < y → distinct_below x s < distinct_below y s
unfolding distinct_below
below_rises s x h zero l = omega arith
below_rises s x h (suc y) l =
    ⊎_elim (λ e. omega (arith, ap (λ (v : ℕ). distinct_below v s) e, ap one (ap (λ (v : ℕ). has v s) (sym e) ∙ h))) (λ g. omega (arith, below_rises s x h y g))
    (eq-or-lt_of_le (le_of_suc-le-suc l))

pub rising_order : (s : List ℕ) (x y : ℕ) → has x s ≡ true → x < y → rising s x < rising s y
unfolding rising
rising_order s x y h l = below_rises s x h y l

pub rising_below : (s : List ℕ) (x : ℕ) → has x s ≡ true → x < 256 → rising s x < distinct s
unfolding distinct rising
rising_below s x h l = below_rises s x h 256 l

-- of two values that stand in s, one is seen before the other
or_left : (a b : Bool) → (a || b) ≡ false → a ≡ false
or_left true b h = cc
or_left false b h = refl

or_right : (a b : Bool) → (a || b) ≡ false → b ≡ false
or_right true b h = cc
or_right false b h = h

or_found : (a b : Bool) → b ≡ true → (a || b) ≡ true
or_found true b h = refl
or_found false b h = h

module _ (x y : ℕ) (n : x ≡ y → ⊥) (z : ℕ) (s : List ℕ) where
  -- the symbol z stands before s: it is y, or it is neither x nor y
  at_y : eqb y z ≡ true → has y (up_to x (z ∷ s)) ≡ true
  unfolding has up_to
  at_y e = rw (ne_eqb x z (λ q. n (q ∙ sym (eqb-true y z e))), e)

  past : (has x s ≡ true → has x (up_to y s) ≡ false → has y (up_to x s) ≡ true) → has x (z ∷ s) ≡ true
      → has x (z ∷ up_to y s) ≡ false → has y (up_to x (z ∷ s)) ≡ true
  unfolding has up_to
  past go h g =
      let e : eqb x z ≡ false = or_left (eqb x z) (has x (up_to y s)) g in
      let k : has x s ≡ true = rw e at h in
      rw e (or_found (eqb y z) (has y (up_to x s)) (go k (or_right (eqb x z) (has x (up_to y s)) g)))

  not_first_at : (has x s ≡ true → has x (up_to y s) ≡ false → has y (up_to x s) ≡ true) → has x (z ∷ s) ≡ true → (b : Bool) → eqb y z ≡ b
      → has x (cond b [] (z ∷ up_to y s)) ≡ false → has y (up_to x (z ∷ s)) ≡ true
  not_first_at go h true e g = at_y e
  not_first_at go h false e g = past go h g

not_first : (x y : ℕ) → (x ≡ y → ⊥) → (s : List ℕ) → has x s ≡ true → has x (up_to y s) ≡ false → has y (up_to x s) ≡ true
unfolding up_to
not_first x y n [] h g = cc (none_in_nil x)
not_first x y n (z ∷ s) h g = not_first_at x y n z s (not_first x y n s) h (eqb y z) refl g

-- x stands before the first y: what is before the first x is before the first y too
cut_same : (x z : ℕ) (s t : List ℕ) (b : Bool) → has x (cond b [] (z ∷ t)) ≡ true → (has x t ≡ true → up_to x t ≡ up_to x s)
    → up_to x (cond b [] (z ∷ t)) ≡ up_to x (z ∷ s)
unfolding has up_to
cut_same x z s t true h go = cc
cut_same x z s t false h go = same_cut z (up_to x t) (up_to x s) (has x t) (eqb x z) h go

up_to_up_to : (x y : ℕ) (s : List ℕ) → has x (up_to y s) ≡ true → up_to x (up_to y s) ≡ up_to x s
unfolding up_to
up_to_up_to x y [] h = refl
up_to_up_to x y (z ∷ s) h = cut_same x z s (up_to y s) (eqb y z) h (up_to_up_to x y s)

sight_order : (s : List ℕ) (x y : ℕ) → has x (up_to y s) ≡ true → x < 256 → first_sight s x < first_sight s y
unfolding first_sight
sight_order s x y h l =
    distinct_lt (up_to x s) (up_to y s) (λ v k. up_to_in v x (up_to y s) (ap (has v) (up_to_up_to x y s h) ∙ k)) x (up_to_not x s) h l

pub sight_differs : (s : List ℕ) (x y : ℕ) → has x s ≡ true → has y s ≡ true → x < 256 → y < 256 → first_sight s x ≡ first_sight s y → x ≡ y
sight_differs s x y h g l m e = pick (ℕ_discrete x y)
  where
    ordered : (x ≡ y → ⊥) → (b : Bool) → has x (up_to y s) ≡ b → ⊥
    ordered n true q = omega (arith, sight_order s x y q l)
    ordered n false q = omega (arith, sight_order s y x (not_first x y n s h q) m)

    pick : Dec (x ≡ y) → x ≡ y
    pick (yes q) = q
    pick (no n) = absurd (ordered n (has x (up_to y s)) refl)

-- unequal values have unequal numbers
not_above : (s : List ℕ) (x y : ℕ) → has y s ≡ true → rising s x ≡ rising s y → x ≤ y
not_above s x y g e = pick (dec_le x y)
  where
    pick : Dec (x ≤ y) → x ≤ y
    pick (yes l) = l
    pick (no k) = omega (arith, rising_order s y x g (lt_of_not-le k))

pub rising_differs : (s : List ℕ) (x y : ℕ) → has x s ≡ true → has y s ≡ true → rising s x ≡ rising s y → x ≡ y
rising_differs s x y h g e = le_antisymm (not_above s x y g e) (not_above s y x h (sym e))

-- as many values as symbols at most
take_next_le : (s : List ℕ) → Bytes s → (i : ℕ) → i ≤ length s → distinct (take i s) ≤ i
take_next_le s b zero l = omega (arith, distinct_nil)
take_next_le s b (suc i) l = rw (take-suc s i 0 l) (pick (has (get_or s i 0) (take i s)) refl (take_next_le s b i (omega arith)))
  where
    pick : (c : Bool) → has (get_or s i 0) (take i s) ≡ c → distinct (take i s) ≤ i → distinct (take i s ++ (get_or s i 0 ∷ [])) ≤ suc i
    pick true e h = omega (arith, distinct_same (get_or s i 0) (take i s) e)
    pick false e h = omega (arith, distinct_more (get_or s i 0) (take i s) e (b i l))

pub distinct_le_length : (s : List ℕ) → Bytes s → distinct s ≤ length s
distinct_le_length s b = rw (take-length s) at (take_next_le s b (length s) (omega arith))

-- a constant capture has one value
module _ (s : List ℕ) (x : ℕ) (byte : x < 256) (same : (i : ℕ) → i < length s → get_or s i 0 ≡ x) where
  next : (i : ℕ) → i < length s → take (suc i) s ≡ take i s ++ (x ∷ [])
  next i l = take-suc s i 0 l ∙ ap (λ (y : ℕ). take i s ++ (y ∷ [])) (same i l)

  one_value : (i : ℕ) → i < length s → distinct (take (suc i) s) ≡ 1
  one_value zero l = rw (next 0 l) (omega (arith, distinct_more x [] (none_in_nil x) byte, distinct_nil))
  one_value (suc i) l =
      rw (next (suc i) l)
      (omega (
        arith,
        distinct_same x (take (suc i) s) (ap (has x) (next i (omega arith)) ∙ snoc_same x (take i s)),
        one_value i (omega arith),
      ))

  pub constant_one : 0 < length s → distinct s ≡ 1
  constant_one l =
      let p : suc (pred (length s)) ≡ length s = omega arith in
      rw (p, take-length s) at (one_value (pred (length s)) (omega arith))

-- every translated symbol is below the size
pub sorted_below : (s : List ℕ) → Bytes s → (i : ℕ) → i < length s → get_or (sorted s) i 0 < distinct s
sorted_below s b i l = map_below (rising s) (distinct s) s i l (rising_below s (get_or s i 0) (has_at s i l) (b i l))

pub dense_below : (s : List ℕ) → Bytes s → (i : ℕ) → i < length s → get_or (dense s) i 0 < distinct s
dense_below s b i l = map_below (first_sight s) (distinct s) s i l (sight_below s (get_or s i 0) (has_at s i l) (b i l))
