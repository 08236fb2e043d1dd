-- A translation writes its output from the left. Assumes nothing.
use mathlib.Core.Path.{◌≡◌, refl, ap, sym, ◌∙◌}
use mathlib.Core.List.{List, [], ◌∷◌, ◌++◌, map, append_assoc}
use Prim.Native.Nat.{ℕ, suc, ◌+◌, ◌-◌, ◌≤◌, ◌<◌}
use native.Mathlib.Numerals.{add-one}
use native.Mathlib.Omega.{arith}
use lib.ListN.{length, get_or, set, take, drop, length-map}
use lib.Seq.{take-suc, drop-cons, set_at, drop_at, drop-drop, length-take-le, take_all, split_at}
use Rattle.alphabet.specs.Alphabet.{written}
use Rattle.alphabet.specs.Inner.Numbering.{partly}

map_append : (f : ℕ → ℕ) (s t : List ℕ) → map f (s ++ t) ≡ map f s ++ map f t
map_append f [] t = refl
map_append f (x ∷ s) t = ap (λ (l : List ℕ). f x ∷ l) (map_append f s t)

module _ (f : ℕ → ℕ) (s out : List ℕ) where
  partly_step : (i : ℕ) → i < length s → length s ≤ length out
      → set (partly f s i out) i (f (get_or s i 0)) ≡ partly f s (i + 1) out
  partly_step i h l =
      let p : length (map f (take i s)) ≡ i = length-map (take i s) f ∙ length-take-le i s (omega arith) in
      ap (λ (z : List ℕ). set (map f (take i s) ++ z) i (f (get_or s i 0))) (drop-cons out i 0 (omega arith))
      ∙ set_at (map f (take i s)) (get_or out i 0) (drop (suc i) out) (f (get_or s i 0)) i p
      ∙ rw (
        add-one i,
        take-suc s i 0 h,
        map_append f (take i s) (get_or s i 0 ∷ []),
        append_assoc (map f (take i s)) (f (get_or s i 0) ∷ []) (drop (suc i) out),
      )

  -- the number x of the symbol at place i goes out
  pub goes_out : (i : ℕ) {j x : ℕ} {w : List ℕ} → j ≡ i + 1 → i < length s → length s ≤ length out → x ≡ f (get_or s i 0)
      → w ≡ partly f s i out → set w i x ≡ partly f s j out
  goes_out i n h l q e = rw (e, q, n) (partly_step i h l)

  pub partly_end : (i : ℕ) → length s ≤ i → i ≤ length s → partly f s i out ≡ written (map f s) out
  partly_end i g h =
      let e : i ≡ length s = omega arith in
      rw (take_all i s g, length-map s f) (ap (λ (n : ℕ). map f s ++ drop n out) e)

  -- to translate more of an output that is translated up to place i already is to translate more of the first one
  module _ {w : List ℕ} (i : ℕ) (h : i ≤ length s) (e : w ≡ partly f s i out) where
    partly_left : (j : ℕ) → i ≤ j → drop j w ≡ drop j out
    partly_left j l =
        let n : j ≡ i + (j - i) = omega arith in
        rw n
        (sym (drop-drop (j - i) i w)
        ∙ ap (drop (j - i))
        (ap (drop i) e ∙ drop_at (map f (take i s)) (drop i out) i (length-map (take i s) f ∙ length-take-le i s h))
        ∙ drop-drop (j - i) i out)

    pub partly_now : w ≡ partly f s i w
    partly_now = e ∙ ap (λ (z : List ℕ). map f (take i s) ++ z) (sym (partly_left i (omega arith)))

    pub partly-again : (j : ℕ) → i ≤ j → {u : List ℕ} → u ≡ partly f s j w → u ≡ partly f s j out
    partly-again j l q = q ∙ ap (λ (z : List ℕ). map f (take j s) ++ z) (partly_left j l)

    pub written-again : {u : List ℕ} → u ≡ written (map f s) w → u ≡ written (map f s) out
    written-again q = q ∙ ap (λ (z : List ℕ). map f s ++ z) (partly_left (length (map f s)) (omega (arith, length-map s f)))

-- the symbols past, the one here and the ones to come
pub around : (s : List ℕ) (i : ℕ) → i < length s → s ≡ (take i s ++ (get_or s i 0 ∷ [])) ++ drop (suc i) s
around s i h = split_at s i 0 h ∙ sym (append_assoc (take i s) (get_or s i 0 ∷ []) (drop (suc i) s))
