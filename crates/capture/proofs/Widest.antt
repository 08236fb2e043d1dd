-- The first symbol above 1 is where `position` finds one. Assumes nothing.
use mathlib.Core.Path.{◌≡◌, refl, sym, ◌∙◌}
use mathlib.Core.List.{List}
use mathlib.Core.Bool.{Bool, true, false, cond, ◌&&◌}
use Prim.Native.Nat.{ℕ, suc, ◌+◌, ◌≤◌}
use native.Mathlib.Omega.{arith}
use lib.Dec.{eqb, leb, ltb}
use lib.ListN.{length}
use borrow.Author.Tests.{leb-true, leb-false, le-ltb, lt-ltb, ltb-false}
use Rattle.std.specs.List.{position_or_len}
use Rattle.std.proofs.lemmas.List.Recursion.{is_position_or_len}
use Rattle.std.proofs.lemmas.List.Sums.{prefix_len-le-length}
use Rattle.std.specs.Prelude.{Some, None}
use Rattle.std.specs.Option.{unwrap_or}
use Rattle.capture.specs.Bits.{first_wide, too_wide_at, wide, place_in}

above_one : (x n : ℕ) → cond (leb x 1) (suc n) 0 ≡ cond (ltb 1 x) 0 (1 + n)
above_one x n = go (leb x 1) refl
  where
    go : (b : Bool) → leb x 1 ≡ b → cond b (suc n) 0 ≡ cond (ltb 1 x) 0 (1 + n)
    go true e = rw (le-ltb 1 x (leb-true x 1 e)) (omega arith)
    go false e = rw (lt-ltb 1 x (leb-false x 1 e))

wide_first : (s : List ℕ) → first_wide s ≡ position_or_len (λ x. ltb 1 x) s
unfolding first_wide
wide_first s = is_position_or_len first_wide (λ x. ltb 1 x) refl (λ x xs. above_one x (first_wide xs)) s

-- as `position` answers it
pub wide_place : (s : List ℕ)
    → cond (ltb (position_or_len (λ x. ltb 1 x) s) (length s)) (Some (position_or_len (λ x. ltb 1 x) s)) None ≡ place_in s (first_wide s)
wide_place s = rw (wide_first s)

pub wide_within : (s : List ℕ) → first_wide s ≤ length s
wide_within s = rw (wide_first s) (prefix_len-le-length _ s)

-- number 3 by the place that the code looks for
wide_is : (s : List ℕ) (v : ℕ) → wide s v ≡ ltb (too_wide_at s v) (length s)
wide_is s v = by_width (eqb v 1)
  where
    by_width : (b : Bool) → (b && ltb (first_wide s) (length s)) ≡ ltb (cond b (first_wide s) (length s)) (length s)
    by_width true = refl
    by_width false = sym (le-ltb (length s) (length s) (omega arith))

place_some : (b : Bool) (i p : ℕ) → cond b (Some i) None ≡ Some p → b ≡ true
place_some true i p e = refl
place_some false i p e = cc

place_none : (b : Bool) (i : ℕ) → cond b (Some i) None ≡ None → b ≡ false
place_none true i e = cc
place_none false i e = refl

pub wide_some : (s : List ℕ) (w p : ℕ) → place_in s (too_wide_at s w) ≡ Some p → wide s w ≡ true
wide_some s w p e = wide_is s w ∙ place_some _ _ _ e

pub wide_none : (s : List ℕ) (w : ℕ) → place_in s (too_wide_at s w) ≡ None → wide s w ≡ false
wide_none s w e = wide_is s w ∙ place_none _ _ e

pub wide_nowhere : (s : List ℕ) → place_in s (first_wide s) ≡ None → first_wide s ≡ length s
wide_nowhere s e = omega (arith, wide_within s, ltb-false _ _ (place_none _ _ e))

pub wide_or_length : (s : List ℕ) → unwrap_or (place_in s (first_wide s)) (length s) ≡ first_wide s
wide_or_length s = go (ltb (first_wide s) (length s)) refl
  where
    go : (b : Bool) → ltb (first_wide s) (length s) ≡ b → unwrap_or (cond b (Some (first_wide s)) None) (length s) ≡ first_wide s
    go true e = refl
    go false e = omega (arith, wide_within s, ltb-false _ _ e)
