-- The two numberings of the values of a capture. Definitions only.
use Rattle.std.specs.Prelude.{ℕ, zero, suc, ◌+◌, Bool, false, cond, ◌||◌, List, [], ◌∷◌, ◌++◌, map, ltb, eqb, length, drop, Result, Ok, Err}
use Rattle.answer.specs.Numbers.{done, too_long, too_short}
use Rattle.answer.specs.Results.{number_of}
use Rattle.answer.specs.declared.Refusal.{Refusal}
use Rattle.capture.specs.Bits.{one}
use Rattle.capture.specs.Limit.{over_limit}
use Rattle.alphabet.specs.declared.Alphabet.{Alphabet}

-- whether x stands in the list
unfoldable pub has : ℕ → List ℕ → Bool
has x [] = false
has x (y ∷ ys) = eqb x y || has x ys

-- how many of the values below v stand in the list
unfoldable pub distinct_below : ℕ → List ℕ → ℕ
distinct_below zero s = 0
distinct_below (suc v) s = distinct_below v s + one (has v s)

-- how many distinct values a capture has: its alphabet's size
unfoldable pub distinct : List ℕ → ℕ
distinct s = distinct_below 256 s

-- the symbols before the first x
unfoldable pub up_to : ℕ → List ℕ → List ℕ
up_to x [] = []
up_to x (y ∷ ys) = cond (eqb x y) [] (y ∷ up_to x ys)

-- "numbers values by first sight": x's number is how many distinct values stand before the first x
unfoldable pub first_sight : List ℕ → ℕ → ℕ
first_sight s x = distinct (up_to x s)

-- "numbers them in rising order": x's number is how many distinct values are smaller
unfoldable pub rising : List ℕ → ℕ → ℕ
rising s x = distinct_below x s

-- the translated symbols
abbrev pub dense : List ℕ → List ℕ
dense s = map (first_sight s) s

abbrev pub sorted : List ℕ → List ℕ
sorted s = map (rising s) s

-- a lent output after a translation: "the output's first bytes are the translated symbols", and the rest is what it was
abbrev pub written : List ℕ → List ℕ → List ℕ
written translated out = translated ++ drop (length translated) out

-- whether a translation is refused, by its number, and `done` where it is not
abbrev pub alphabet_number : List ℕ → List ℕ → ℕ
alphabet_number s out = cond (over_limit s) too_long (cond (ltb (length out) (length s)) too_short done)

-- the answer: the size, or a refusal with size 0
abbrev pub alphabet_of : List ℕ → List ℕ → Alphabet
alphabet_of s out = record { number = alphabet_number s out; size = cond (eqb (alphabet_number s out) done) (distinct s) 0 }

-- what C gets of a size, or of a refusal
abbrev pub alphabet_in : Result ℕ Refusal → Alphabet
alphabet_in (Ok size) = record { number = done; size = size }
alphabet_in (Err e) = record { number = number_of e; size = 0 }

-- the output at the end: all as it was on a refusal
abbrev pub output_of : (List ℕ → List ℕ) → List ℕ → List ℕ → List ℕ
output_of translate s out = cond (eqb (alphabet_number s out) done) (written (translate s) out) out
