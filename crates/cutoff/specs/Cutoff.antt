-- The cutoffs of the repetition count test, SP 800-90B 4.4.1: "C = 1 + ⌈-log2 α / H⌉". With α = 2^-20 and H = j / 64 bits that is 1 + ⌈1280 / j⌉. Definitions only.
use Rattle.std.specs.Prelude.{◌≡◌, ℕ, ◌+◌, ◌-◌, ◌*◌, ◌/◌, ◌≤◌, Bool, false, ◌&&◌, cond, negsuc, Float, Result, Ok, Err}
use Rattle.std.specs.Float.{fin}
use Rattle.std.specs.Float.Ieee.{le}
use Rattle.std.specs.Float.Ieee.Positive.{num, den}
use Rattle.rounding.specs.Doubles.{eight}
use Rattle.answer.specs.Numbers.{done, out_of_range}
use Rattle.answer.specs.Results.{number_of}
use Rattle.answer.specs.declared.Refusal.{Refusal}
use Rattle.cutoff.specs.declared.Cutoff.{Cutoff}

-- "a table of 512 cutoffs, one for each 1/64 bit"
unfoldable pub entries : ℕ
entries = 512

-- the 20 bits of a "false alarm probability 2^-20", in 1/64 bit
unfoldable pub spread : ℕ
spread = 1280

-- a / b rounded up
abbrev pub rounded_up : ℕ → ℕ → ℕ
rounded_up a b = (a + (b - 1)) / b

-- "Entry j is 1 plus 1280/j rounded up"
unfoldable pub cutoff_at : ℕ → ℕ
cutoff_at j = 1 + rounded_up spread j

-- c is the cutoff of an entry of the table
pub record Entry (c : ℕ) : Type 0 where
  pub j : ℕ
  pub from : 1 ≤ j
  pub to : j ≤ entries
  pub is : c ≡ cutoff_at j

-- 1/64 bit
abbrev pub sixty_fourth : Float
sixty_fourth = fin false 1 (negsuc 5)

-- "under 1/64, above 8 or not a number" is out of range; every comparison with a NaN is false
unfoldable pub in_range : Float → Bool
in_range h = le sixty_fourth h && le h eight

-- "An entropy is rounded down to 1/64": how many whole 1/64 there are in the exact fraction that its double is
unfoldable pub entry_of : Float → ℕ
entry_of h = 64 * num h / den h

unfoldable pub cutoff_of : Float → Cutoff
cutoff_of h =
    cond (in_range h) (record { number = done; cutoff = cutoff_at (entry_of h) }) (record { number = out_of_range; cutoff = 0 })

-- what C is told of a cutoff that was found, or of a refusal
abbrev pub told : Result ℕ Refusal → Cutoff
told (Ok c) = record { number = done; cutoff = c }
told (Err e) = record { number = number_of e; cutoff = 0 }
