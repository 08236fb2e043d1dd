-- Bytes stored piece after piece. Assumes nothing.
use mathlib.Core.Path.{◌≡◌, ap, ◌∙◌}
use mathlib.Core.List.{List, [], ◌∷◌, ◌++◌}
use Prim.Native.Nat.{ℕ, suc, ◌+◌, ◌≤◌}
use native.Mathlib.Nat.{add-zero}
use native.Mathlib.Omega.{arith}
use lib.ListN.{length, drop, set, length-append}
use lib.Seq.{sets, sets-eq}

-- t stored behind s
pub sets_append : (l : List ℕ) (i : ℕ) (s t : List ℕ) → sets (sets l i s) (i + length s) t ≡ sets l i (s ++ t)
sets_append l i [] t = ap (λ (k : ℕ). sets l k t) (add-zero i)
sets_append l i (a ∷ s) t =
    let e : i + suc (length s) ≡ suc i + length s = omega arith in
    ap (λ (k : ℕ). sets (sets (set l i a) (suc i) s) k t) e ∙ sets_append (set l i a) (suc i) s t

-- one byte stored behind s, at the place that is its end
pub set_behind : (l : List ℕ) (i : ℕ) (s : List ℕ) (a j : ℕ) → j ≡ i + length s → set (sets l i s) j a ≡ sets l i (s ++ (a ∷ []))
set_behind l i s a j e = ap (λ (k : ℕ). set (sets l i s) k a) e ∙ sets_append l i s (a ∷ [])

-- a word of k bytes, at most m, and one byte behind it
pub behind : (at : ℕ) (l word out : List ℕ) (a m : ℕ) {k : ℕ} → length word ≡ k → out ≡ sets l at word → k ≤ m →
    (at + k + 1 ≡ at + length (word ++ (a ∷ []))) × (set out (at + k) a ≡ sets l at (word ++ (a ∷ []))) × (at + k + 1 ≤ at + suc m)
behind at l word out a m {k} e p h = (
  omega (arith, length-append word (a ∷ [])),
  ap (λ (o : List ℕ). set o (at + k) a) p ∙ set_behind l at word a (at + k) (omega arith),
  omega arith,
)

-- `text` is stored in l from place i on: `out` is what is left, and `next` the place behind the text
pub record Wrote (l : List ℕ) (i : ℕ) (text out : List ℕ) (next : ℕ) : Type 0 where
  pub stored : out ≡ sets l i text
  pub behind : next ≡ i + length text

-- and more text behind it
pub more : {l : List ℕ} {i : ℕ} {text out : List ℕ} {next : ℕ} (w out' : List ℕ) (next' : ℕ) → Wrote l i text out next → next' ≡ next + length w →
    out' ≡ sets out next w → Wrote l i (text ++ w) out' next'
more {l} {i} {text} {out} {next} w out' next' h e p = record {
  stored = p ∙ ap (λ (o : List ℕ). sets o next w) h.stored ∙ ap (λ (k : ℕ). sets (sets l i text) k w) h.behind ∙ sets_append l i text w;
  behind = omega (arith, e, h.behind, length-append text w);
}

-- text at the start of l, with what l has behind it
pub at_start : (text l : List ℕ) → length text ≤ length l → sets l 0 text ≡ text ++ drop (length text) l
at_start text l h =
    let e : 0 + length text ≡ length text = omega arith in
    sets-eq text l 0 (omega arith) ∙ ap (λ (k : ℕ). text ++ drop k l) e
