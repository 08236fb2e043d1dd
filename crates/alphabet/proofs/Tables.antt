-- A table of 256 numbers, one for each value, as it is filled. Assumes nothing.
use mathlib.Core.Path.{◌≡◌, ap, sym, subst, ◌∙◌}
use mathlib.Core.List.{List, [], ◌∷◌, ◌++◌}
use Prim.Native.Nat.{ℕ, ◌+◌, ◌≤◌, ◌<◌}
use native.Mathlib.Decide.{ℕ_discrete}
use native.Mathlib.Numerals.{add-one}
use native.Mathlib.Omega.{arith}
use lib.ListN.{length, get_or, set, take, replicate, length-set, length-replicate, get_or-replicate}
use lib.Seq.{get_or-set_same, get_or-set_other, take_all, take-suc}
use Rattle.alphabet.specs.Inner.Numbering.{Holds, SymbolAt}

pub holds_same : {f g : ℕ → ℕ} {m : List ℕ} → Holds f m → ((v : ℕ) → g v ≡ f v) → Holds g m
holds_same h e = record { full = h.full; at = λ v l. h.at v l ∙ sym (e v) }

pub holds_set : {f g : ℕ → ℕ} {m : List ℕ} (x : ℕ) {a : ℕ} → x < 256 → Holds f m → g x ≡ a → ((v : ℕ) → (v ≡ x → ⊥) → g v ≡ f v)
    → Holds g (set m x a)
holds_set {f} {g} {m} x {a} l h e o = record { full = length-set m x a ∙ h.full; at = λ v k. pick v k (ℕ_discrete v x) }
  where
    pick : (v : ℕ) → v < 256 → Dec (v ≡ x) → get_or (set m x a) v 0 ≡ g v
    pick v k (yes q) =
        ap (λ (y : ℕ). get_or (set m x a) y 0) q ∙ get_or-set_same m x a 0 (omega (arith, h.full)) ∙ sym (ap g q ∙ e)
    pick v k (no n) = get_or-set_other m x v a 0 n ∙ h.at v k ∙ sym (o v n)

pub holds_start : (f : ℕ → ℕ) (a : ℕ) → ((v : ℕ) → f v ≡ a) → Holds f (replicate 256 a)
holds_start f a e = record { full = length-replicate 256 a; at = λ v l. get_or-replicate 256 v a 0 l ∙ sym (e v) }

-- all of the list is passed
pub holds_all : (f : List ℕ → ℕ → ℕ) (s : List ℕ) (i : ℕ) {m : List ℕ} → length s ≤ i → Holds (f (take i s)) m → Holds (f s) m
holds_all f s i {m} l h = subst (λ (t : List ℕ). Holds (f t) m) (take_all i s l) h

-- the symbol at place i
pub symbol_at : {s : List ℕ} {i x : ℕ} → i < length s → x ≡ get_or s i 0 → x < 256 → SymbolAt s i x
symbol_at h e l = record { inside = h; here = e; small = l }

-- the symbols up to and with that at place i
pub take_next : {s : List ℕ} {i x : ℕ} → SymbolAt s i x → take (i + 1) s ≡ take i s ++ (x ∷ [])
take_next {s} {i} p =
    ap (λ (n : ℕ). take n s) (add-one i) ∙ take-suc s i 0 p.inside ∙ ap (λ (y : ℕ). take i s ++ (y ∷ [])) (sym p.here)
