-- Operations on doubles, each rounded once, and the doubles that several definitions name. Definitions only.
use Rattle.std.specs.Prelude.{ℕ, false, pos, negsuc, Float}
use Rattle.std.specs.Float.{fin, binary64}
use Rattle.std.specs.Float.Ieee.{of_int, add, sub, mul, div}

infixl 40 ◌⊕◌
infixl 40 ◌⊖◌
infixl 50 ◌⊗◌
infixl 50 ◌⊘◌
-- +, -, *, /
abbrev pub ◌⊕◌ : Float → Float → Float
x ⊕ y = add binary64 x y

abbrev pub ◌⊖◌ : Float → Float → Float
x ⊖ y = sub binary64 x y

abbrev pub ◌⊗◌ : Float → Float → Float
x ⊗ y = mul binary64 x y

abbrev pub ◌⊘◌ : Float → Float → Float
x ⊘ y = div binary64 x y

-- 0.0, 1/2, 1.0, 2.0 and 8.0
abbrev pub zero : Float
zero = fin false 0 (pos 0)

abbrev pub half : Float
half = fin false 1 (negsuc 0)

abbrev pub one : Float
one = fin false 1 (pos 0)

abbrev pub two : Float
two = fin false 1 (pos 1)

abbrev pub eight : Float
eight = fin false 1 (pos 3)

-- 1/256, the least probability whose entropy is taken
abbrev pub least : Float
least = fin false 1 (negsuc 7)

-- `n as f64`
abbrev pub whole : ℕ → Float
whole n = of_int binary64 (pos n)
