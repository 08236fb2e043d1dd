-- A capture whose k values all stand below k is its own translation. At most v values stand below any v, so none below k is
-- missing and none stands above: exactly v values are smaller than each value v, and v is its own number. Assumes nothing.
use mathlib.Core.Path.{◌≡◌, refl, ap, sym, ◌∙◌}
use mathlib.Core.Bool.{true}
use mathlib.Core.List.{List, [], ◌∷◌, map}
use mathlib.Core.Logic.{⊎_elim}
use Prim.Native.Nat.{ℕ, zero, suc, ◌≤◌, ◌<◌}
use native.Mathlib.Decide.{dec_le}
use native.Mathlib.Nat.{eq-or-lt_of_le, le_of_suc-le-suc, lt_of_not-le}
use native.Mathlib.Omega.{arith}
use lib.ListN.{length, get_or}
use Rattle.alphabet.specs.Alphabet.{has, distinct, distinct_below, rising, sorted}
use Rattle.alphabet.proofs.Alphabets.{Bytes, rising_below}
use Rattle.alphabet.proofs.Distinct.{below_le, distinct_le, one_le}
use Rattle.alphabet.proofs.Membership.{has_at}

-- a map that changes no element changes no list
pub map_same : (f : ℕ → ℕ) (s : List ℕ) → ((i : ℕ) → i < length s → f (get_or s i 0) ≡ get_or s i 0) → map f s ≡ s
map_same f [] h = refl
map_same f (x ∷ s) h = rw (h 0 (omega arith), map_same f s (λ i l. h (suc i) (omega arith)))

module _ (s : List ℕ) where
  below_grows : (v w : ℕ) → v ≤ w → distinct_below v s ≤ distinct_below w s
  unfolding distinct_below
  below_grows v zero l = let e : v ≡ 0 = omega arith in rw e (omega arith)
  below_grows v (suc w) l = ⊎_elim (λ e. rw e (omega arith)) (λ g. omega (arith, below_grows v w (le_of_suc-le-suc g))) (eq-or-lt_of_le l)

  -- where k values stand below k, v stand below each v up to k
  below_full : (k : ℕ) → distinct_below k s ≡ k → (v : ℕ) → v ≤ k → distinct_below v s ≡ v
  unfolding distinct_below
  below_full zero e v l = let z : v ≡ 0 = omega arith in rw z
  below_full (suc k) e v l =
      ⊎_elim (λ q. rw q e) (λ g. below_full k (omega (arith, below_le k s, one_le (has k s))) v (le_of_suc-le-suc g)) (eq-or-lt_of_le l)

  -- all of the values stand below how many there are
  module _ (full : rising s (distinct s) ≡ distinct s) where
    value_below : (x : ℕ) → has x s ≡ true → x < 256 → x < distinct s
    unfolding rising
    value_below x h l = pick (dec_le (distinct s) x)
      where
        pick : Dec (distinct s ≤ x) → x < distinct s
        pick (yes g) = omega (arith, below_grows (distinct s) x g, rising_below s x h l)
        pick (no n) = lt_of_not-le n

    pub own_number : (x : ℕ) → has x s ≡ true → x < 256 → rising s x ≡ x
    unfolding rising
    own_number x h l = below_full (distinct s) full x (omega (arith, value_below x h l))

    pub sorted_same : Bytes s → sorted s ≡ s
    sorted_same b = map_same (rising s) s (λ i l. own_number (get_or s i 0) (has_at s i l) (b i l))

  -- all 256 values stand in the capture
  all_full : 256 ≤ distinct s → rising s (distinct s) ≡ distinct s
  unfolding rising distinct
  all_full l = let e : distinct s ≡ 256 = omega (arith, distinct_le s) in ap (rising s) e

  -- how many there are, and how many of them stand below that, tell of such a capture
  module _ (b : Bytes s) {size : ℕ} (e : size ≡ distinct s) where
    pub all_sorted : 255 < size → sorted s ≡ s
    all_sorted l = sorted_same (all_full (omega arith)) b

    pub own_sorted : {x : ℕ} → x ≡ rising s size → x ≡ size → sorted s ≡ s
    own_sorted q g = sorted_same (let r : rising s size ≡ size = sym q ∙ g in rw e at r) b
