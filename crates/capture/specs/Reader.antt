-- What the bit reader answers: 1, then 7, then 2, then 3, "and 3 only for the symbol it reads". Definitions only.
use Rattle.std.specs.Prelude.{ℕ, cond, ◌&&◌, List, leb, ltb, eqb, get_or, Result, Ok, Err}
use Rattle.answer.specs.Numbers.{done, too_long, too_short, too_wide, bad_width}
use Rattle.answer.specs.Results.{number_of, place_of}
use Rattle.answer.specs.declared.Refusal.{Refusal}
use Rattle.capture.specs.Limit.{no_width, over_limit}
use Rattle.capture.specs.Bits.{bit_at, bit_count}
use Rattle.capture.specs.declared.BitRead.{BitRead}

abbrev pub refused_bit : ℕ → ℕ → BitRead
refused_bit number place = record { number = number; place = place; bit = 0 }

-- at width 1 bit i is symbol i
unfoldable pub bit_read : List ℕ → ℕ → ℕ → BitRead
bit_read symbols width i =
    cond (over_limit symbols) (refused_bit too_long 0)
    (cond (no_width width) (refused_bit bad_width 0)
    (cond (leb (bit_count symbols width) i) (refused_bit too_short 0)
    (cond (eqb width 1 && ltb 1 (get_or symbols i 0)) (refused_bit too_wide i)
    (record { number = done; place = 0; bit = bit_at symbols width i }))))

-- what C gets of a bit
abbrev pub bit_read_of : Result ℕ Refusal → BitRead
bit_read_of (Ok bit) = record { number = done; place = 0; bit = bit }
bit_read_of (Err e) = refused_bit (number_of e) (place_of e)
