-- What bit i of a capture is, and how many there are. Definitions only.
use Rattle.std.specs.Prelude.{ℕ, zero, suc, ◌*◌, ◌-◌, ◌/◌, ◌%◌, ◌^◌, Bool, true, false, cond, ◌&&◌, List, [], ◌∷◌, ◌++◌, leb, ltb, eqb, length, get_or, Option, Some, None}
use Rattle.answer.specs.Numbers.{done, too_long, bad_width}
use Rattle.capture.specs.Limit.{no_width, over_limit}

-- "the low bits of each byte, highest first": bit i stands in byte i / width, with width - 1 - i % width bits of that byte after it.
-- At width 1 the bit of a byte that is at most 1 is the byte as it is.
unfoldable pub bit_at : List ℕ → ℕ → ℕ → ℕ
bit_at symbols width i = get_or symbols (i / width) 0 / 2 ^ (width - 1 - i % width) % 2

-- 1 for what holds, so that what holds can be counted
abbrev pub one : Bool → ℕ
one true = 1
one false = 0

-- the first n values of f
unfoldable pub table : ℕ → (ℕ → ℕ) → List ℕ
table zero f = []
table (suc n) f = table n f ++ (f n ∷ [])

-- the samples of the bitstring track: the first `count` bits
unfoldable pub bits_of : List ℕ → ℕ → ℕ → List ℕ
bits_of symbols width count = table count (bit_at symbols width)

-- the number of bits of a whole capture
abbrev pub bit_count : List ℕ → ℕ → ℕ
bit_count symbols width = length symbols * width

-- the first place of a symbol above 1; the length where there is none
unfoldable pub first_wide : List ℕ → ℕ
first_wide [] = 0
first_wide (x ∷ xs) = cond (leb x 1) (suc (first_wide xs)) 0

-- number 3: "width 1 .. and a symbol above 1"
abbrev pub wide : List ℕ → ℕ → Bool
wide symbols width = eqb width 1 && ltb (first_wide symbols) (length symbols)

-- where the first symbol stands that is above what the width takes; the length where there is none
abbrev pub too_wide_at : List ℕ → ℕ → ℕ
too_wide_at symbols width = cond (eqb width 1) (first_wide symbols) (length symbols)

-- the bits of a whole capture
unfoldable pub all_bits : List ℕ → ℕ → List ℕ
all_bits symbols width = bits_of symbols width (bit_count symbols width)

-- by which number it is refused that a capture is a source of bits
abbrev pub source_refusal : List ℕ → ℕ → ℕ
source_refusal symbols width = cond (over_limit symbols) too_long (cond (no_width width) bad_width done)

-- a place of the list, or none past its end
abbrev pub place_in : List ℕ → ℕ → Option ℕ
place_in s i = cond (ltb i (length s)) (Some i) None
