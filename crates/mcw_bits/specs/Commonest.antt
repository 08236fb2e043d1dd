-- How often a symbol stands in a window, and which is the commonest. Definitions only.
use Rattle.std.specs.Prelude.{cond, List, [], ◌∷◌, ℕ, ◌+◌, ◌-◌, leb, eqb, take, drop}
use Rattle.capture.specs.Bits.{one}

-- how often x stands in the list
unfoldable pub occurrences : ℕ → List ℕ → ℕ
occurrences x [] = 0
occurrences x (y ∷ ys) = one (eqb x y) + occurrences x ys

-- of a and then the symbols of v, read from the left, the one that occurs most often in w: one that occurs as often takes the place of the one before it
unfoldable pub favourite : List ℕ → List ℕ → ℕ → ℕ
favourite w [] a = a
favourite w (x ∷ v) a = favourite w v (cond (leb (occurrences a w) (occurrences x w)) x a)

-- "the commonest symbol of the W samples just before, a tie going to the one seen latest"
unfoldable pub commonest : List ℕ → ℕ
commonest w = favourite w w 0

-- the `size` samples just before place i
abbrev pub window : List ℕ → ℕ → ℕ → List ℕ
window s i size = take size (drop (i - size) s)
