-- How many distinct values a list has. Assumes nothing.
use mathlib.Core.Path.{◌≡◌, refl, ap, sym, ◌∙◌}
use mathlib.Core.Bool.{Bool, true, false, ◌||◌}
use mathlib.Core.List.{List, [], ◌∷◌, ◌++◌}
use mathlib.Core.Logic.{⊎_elim}
use native.Mathlib.Decide.{ℕ_discrete}
use Prim.Native.Nat.{ℕ, zero, suc, ◌+◌, ◌≤◌, ◌<◌}
use native.Mathlib.Nat.{eq-or-lt_of_le, le_of_suc-le-suc}
use native.Mathlib.Omega.{arith}
use Rattle.capture.specs.Bits.{one}
use Rattle.alphabet.specs.Alphabet.{has, distinct, distinct_below}
use Rattle.alphabet.proofs.Membership.{has_append, snoc_same, snoc_other}

pub one_le : (b : Bool) → one b ≤ 1
one_le true = omega arith
one_le false = omega arith

one_mono : (a b : Bool) → (a ≡ true → b ≡ true) → one a ≤ one b
one_mono true b f = rw (f refl) (omega arith)
one_mono false b f = omega arith

pub below_le : (v : ℕ) (s : List ℕ) → distinct_below v s ≤ v
unfolding distinct_below
below_le zero s = omega arith
below_le (suc v) s = omega (arith, below_le v s, one_le (has v s))

pub distinct_le : (s : List ℕ) → distinct s ≤ 256
unfolding distinct
distinct_le s = below_le 256 s

-- every value of t stands in s
abbrev pub Within : List ℕ → List ℕ → Type 0
Within t s = (v : ℕ) → has v t ≡ true → has v s ≡ true

module _ (t s : List ℕ) (w : Within t s) where
  pub below_mono : (v : ℕ) → distinct_below v t ≤ distinct_below v s
  unfolding distinct_below
  below_mono zero = omega arith
  below_mono (suc v) = omega (arith, below_mono v, one_mono (has v t) (has v s) (w v))

  -- a value that stands in s and not in t makes the difference
  module _ (x : ℕ) (n : has x t ≡ false) (h : has x s ≡ true) where
    here : (v : ℕ) → x ≡ v → distinct_below (suc v) t < distinct_below (suc v) s
    unfolding distinct_below
    here v e = omega (arith, below_mono v, ap one (ap (λ (y : ℕ). has y t) (sym e) ∙ n), ap one (ap (λ (y : ℕ). has y s) (sym e) ∙ h))

    before : (v : ℕ) → distinct_below v t < distinct_below v s → distinct_below (suc v) t < distinct_below (suc v) s
    unfolding distinct_below
    before v l = omega (arith, one_mono (has v t) (has v s) (w v))

    pub below_lt : (v : ℕ) → x < v → distinct_below v t < distinct_below v s
    below_lt zero l = omega arith
    below_lt (suc v) l = ⊎_elim (here v) (λ g. before v (below_lt v g)) (eq-or-lt_of_le (le_of_suc-le-suc l))

    pub distinct_lt : x < 256 → distinct t < distinct s
    unfolding distinct
    distinct_lt l = below_lt 256 l

grows : (x : ℕ) (t : List ℕ) → Within t (t ++ (x ∷ []))
grows x t v h = has_append v t (x ∷ []) ∙ ap (λ (b : Bool). b || has v (x ∷ [])) h

-- a list that lacks a value has fewer than 256
pub distinct_room : (x : ℕ) (t : List ℕ) → has x t ≡ false → x < 256 → distinct t < 256
distinct_room x t n l = omega (arith, distinct_lt t (t ++ (x ∷ [])) (grows x t) x n (snoc_same x t) l, distinct_le (t ++ (x ∷ [])))

-- one symbol more at the end: a value that the list has, or one that it lacks
pub same_has : (v x : ℕ) (t : List ℕ) → has x t ≡ true → has v (t ++ (x ∷ [])) ≡ has v t
same_has v x t h = pick (ℕ_discrete v x)
  where
    pick : Dec (v ≡ x) → has v (t ++ (x ∷ [])) ≡ has v t
    pick (yes e) = ap (λ (y : ℕ). has y (t ++ (x ∷ []))) e ∙ snoc_same x t ∙ sym (ap (λ (y : ℕ). has y t) e ∙ h)
    pick (no n) = snoc_other v x t n

pub below_same : (v x : ℕ) (t : List ℕ) → has x t ≡ true → distinct_below v (t ++ (x ∷ [])) ≡ distinct_below v t
unfolding distinct_below
below_same zero x t h = refl
below_same (suc v) x t h = omega (arith, below_same v x t h, ap one (same_has v x t h))

below_past : (v x : ℕ) (t : List ℕ) → v ≤ x → distinct_below v (t ++ (x ∷ [])) ≡ distinct_below v t
unfolding distinct_below
below_past zero x t l = refl
below_past (suc v) x t l = omega (arith, below_past v x t (omega arith), ap one (snoc_other v x t (λ e. omega arith)))

module _ (x : ℕ) (t : List ℕ) (h : has x t ≡ false) where
  more_here : (v : ℕ) → x ≡ v → distinct_below (suc v) (t ++ (x ∷ [])) ≡ distinct_below (suc v) t + 1
  unfolding distinct_below
  more_here v e =
      omega (
        arith,
        below_past v x t (omega arith),
        ap one (ap (λ (y : ℕ). has y (t ++ (x ∷ []))) (sym e) ∙ snoc_same x t),
        ap one (ap (λ (y : ℕ). has y t) (sym e) ∙ h),
      )

  more_before : (v : ℕ) → x < v → distinct_below v (t ++ (x ∷ [])) ≡ distinct_below v t + 1 → distinct_below (suc v) (t ++ (x ∷ [])) ≡ distinct_below (suc v) t + 1
  unfolding distinct_below
  more_before v g e = omega (arith, ap one (snoc_other v x t (λ q. omega arith)))

  pub below_more : (v : ℕ) → x < v → distinct_below v (t ++ (x ∷ [])) ≡ distinct_below v t + 1
  below_more zero l = omega arith
  below_more (suc v) l = ⊎_elim (more_here v) (λ g. more_before v g (below_more v g)) (eq-or-lt_of_le (le_of_suc-le-suc l))

pub distinct_same : (x : ℕ) (t : List ℕ) → has x t ≡ true → distinct (t ++ (x ∷ [])) ≡ distinct t
unfolding distinct
distinct_same x t h = below_same 256 x t h

pub distinct_more : (x : ℕ) (t : List ℕ) → has x t ≡ false → x < 256 → distinct (t ++ (x ∷ [])) ≡ distinct t + 1
unfolding distinct
distinct_more x t h l = below_more x t h 256 l

pub distinct_nil : distinct [] ≡ 0
unfolding distinct distinct_below has
distinct_nil = refl
