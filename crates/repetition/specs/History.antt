-- What a running test has heard, and the state that this leaves. Definitions only.
use Rattle.std.specs.Prelude.{◌≡◌, true, cond, List, [], ◌∷◌, reverse, ℕ, suc, ◌<◌, min, T, eqb, Float}
use Rattle.std.specs.Float.{binary64}
use Rattle.std.specs.Float.Ieee.{fits}
use Rattle.cutoff.specs.Cutoff.{cutoff_at, entry_of, in_range}
use Rattle.repetition.specs.declared.step.RepetitionTest.{RepetitionTest}

-- how many samples at the head of a list are x
unfoldable pub alike : ℕ → List ℕ → ℕ
alike x [] = 0
alike x (y ∷ s) = cond (eqb x y) (suc (alike x s)) 0

-- how many equal samples a list begins with, and the first of them, 0 where there is none
abbrev pub leading : List ℕ → ℕ
leading [] = 0
leading (x ∷ s) = suc (alike x s)

abbrev pub first : List ℕ → ℕ
first [] = 0
first (x ∷ s) = x

-- "the number of equal samples ending" a list, and its last sample: those of the list read backwards
unfoldable pub run : List ℕ → ℕ
run s = leading (reverse s)

unfoldable pub last_sample : List ℕ → ℕ
last_sample s = first (reverse s)

-- "A test state never started is a state of its own"; any other test was started with an entropy and has heard samples since
pub data History : Type 0 where
  never : History
  since : Float → List ℕ → History

-- a sample is a byte
abbrev pub Bytes : List ℕ → Type 0
Bytes [] = Unit {0}
Bytes (x ∷ s) = (x < 256) × Bytes s

-- the entropy is a double that a start takes
abbrev pub Possible : History → Type 0
Possible never = Unit {0}
Possible (since h s) = T (fits binary64 h) × (in_range h ≡ true) × Bytes s

-- the cutoff of a test that was started with an entropy
abbrev pub cutoff_for : Float → ℕ
cutoff_for h = cutoff_at (entry_of h)

-- what a history leaves: "a start sets last sample and count to 0", "The count stops at the cutoff"
abbrev pub left : History → RepetitionTest
left never = record { cutoff = 0; last_sample = 0; count = 0 }
left (since h s) = record { cutoff = cutoff_for h; last_sample = last_sample s; count = min (run s) (cutoff_for h) }
