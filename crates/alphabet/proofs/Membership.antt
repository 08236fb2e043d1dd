-- Which values stand in a list, as it grows by a symbol at its end. Assumes nothing.
use mathlib.Core.Path.{◌≡◌, refl, ap, sym, ◌∙◌}
use mathlib.Core.Bool.{Bool, true, false, cond, ◌||◌}
use mathlib.Core.List.{List, [], ◌∷◌, ◌++◌}
use Prim.Native.Nat.{ℕ, zero, suc, ◌≤◌, ◌<◌}
use native.Mathlib.Omega.{arith}
use borrow.Author.Tests.{eq-eqb, ne_eqb}
use lib.Dec.{eqb}
use lib.ListN.{length, get_or}
use Rattle.alphabet.specs.Alphabet.{has, up_to}

or_assoc : (a b c : Bool) → ((a || b) || c) ≡ (a || (b || c))
or_assoc true b c = refl
or_assoc false b c = refl

or_false : (a : Bool) → (a || false) ≡ a
or_false true = refl
or_false false = refl

or_true : (a : Bool) → (a || true) ≡ true
or_true true = refl
or_true false = refl

pub has_append : (v : ℕ) (s t : List ℕ) → has v (s ++ t) ≡ (has v s || has v t)
unfolding has
has_append v [] t = refl
has_append v (x ∷ s) t = ap (λ (b : Bool). eqb v x || b) (has_append v s t) ∙ sym (or_assoc (eqb v x) (has v s) (has v t))

pub has_here : (v : ℕ) → has v (v ∷ []) ≡ true
unfolding has
has_here v = rw (eq-eqb v v refl)

pub has_not_here : (v x : ℕ) → (v ≡ x → ⊥) → has v (x ∷ []) ≡ false
unfolding has
has_not_here v x n = rw (ne_eqb v x n)

-- of a list with x at its end
pub snoc_same : (x : ℕ) (s : List ℕ) → has x (s ++ (x ∷ [])) ≡ true
snoc_same x s = has_append x s (x ∷ []) ∙ ap (λ (b : Bool). has x s || b) (has_here x) ∙ or_true (has x s)

pub snoc_other : (v x : ℕ) (s : List ℕ) → (v ≡ x → ⊥) → has v (s ++ (x ∷ [])) ≡ has v s
snoc_other v x s n = has_append v s (x ∷ []) ∙ ap (λ (b : Bool). has v s || b) (has_not_here v x n) ∙ or_false (has v s)

-- a symbol of the list stands in it
pub has_at : (s : List ℕ) (i : ℕ) → i < length s → has (get_or s i 0) s ≡ true
unfolding has
has_at [] i h = absurd (let z : 1 ≤ 0 = omega arith in omega arith)
has_at (x ∷ s) zero h = rw (eq-eqb x x refl)
has_at (x ∷ s) (suc i) h = ap (λ (b : Bool). eqb (get_or s i 0) x || b) (has_at s i (omega arith)) ∙ or_true (eqb (get_or s i 0) x)

pub none_in_nil : (v : ℕ) → has v [] ≡ false
unfolding has
none_in_nil v = refl

-- what stands before the first x stands in the list, and x does not
module _ (v : ℕ) (s t : List ℕ) (deeper : has v t ≡ true → has v s ≡ true) where
  or_deeper : (b : Bool) → (b || has v t) ≡ true → (b || has v s) ≡ true
  or_deeper true h = refl
  or_deeper false h = deeper h

  in_cut : (y : ℕ) (b : Bool) → has v (cond b [] (y ∷ t)) ≡ true → has v (y ∷ s) ≡ true
  unfolding has
  in_cut y true h = cc
  in_cut y false h = or_deeper (eqb v y) h

pub up_to_in : (v x : ℕ) (s : List ℕ) → has v (up_to x s) ≡ true → has v s ≡ true
unfolding up_to
up_to_in v x [] h = h
up_to_in v x (y ∷ s) h = in_cut v s (up_to x s) (up_to_in v x s) y (eqb x y) h

not_in_cut : (x y : ℕ) (t : List ℕ) → has x t ≡ false → (b : Bool) → eqb x y ≡ b → has x (cond b [] (y ∷ t)) ≡ false
unfolding has
not_in_cut x y t h true e = refl
not_in_cut x y t h false e = rw e h

pub up_to_not : (x : ℕ) (s : List ℕ) → has x (up_to x s) ≡ false
unfolding up_to
up_to_not x [] = none_in_nil x
up_to_not x (y ∷ s) = not_in_cut x y (up_to x s) (up_to_not x s) (eqb x y) refl

-- the symbols before the first x do not change as the list grows, once x stands in it
pub same_cut : (y : ℕ) (l m : List ℕ) (h : Bool) (b : Bool) → (b || h) ≡ true → (h ≡ true → l ≡ m) → cond b [] (y ∷ l) ≡ cond b [] (y ∷ m)
same_cut y l m h true e f = refl
same_cut y l m h false e f = ap (λ (z : List ℕ). y ∷ z) (f e)

pub up_to_seen : (x : ℕ) (s t : List ℕ) → has x s ≡ true → up_to x (s ++ t) ≡ up_to x s
unfolding has up_to
up_to_seen x [] t h = cc
up_to_seen x (y ∷ s) t h = same_cut y (up_to x (s ++ t)) (up_to x s) (has x s) (eqb x y) h (up_to_seen x s t)

-- where x stands for the first time, all of the list is before it
no_cut : (y : ℕ) (l m : List ℕ) (h : Bool) (b : Bool) → (b || h) ≡ false → (h ≡ false → l ≡ m) → cond b [] (y ∷ l) ≡ y ∷ m
no_cut y l m h true e f = cc
no_cut y l m h false e f = ap (λ (z : List ℕ). y ∷ z) (f e)

pub up_to_new : (x : ℕ) (s t : List ℕ) → has x s ≡ false → up_to x (s ++ (x ∷ t)) ≡ s
unfolding has up_to
up_to_new x [] t h = rw (eq-eqb x x refl)
up_to_new x (y ∷ s) t h = no_cut y (up_to x (s ++ (x ∷ t))) s (has x s) (eqb x y) h (up_to_new x s t)
