-- The two lines that document 01 gives, computed from the definition. Assumes nothing.
use mathlib.Core.Path.{◌≡◌, refl}
use mathlib.Core.Bool.{true, false}
use mathlib.Core.List.{[], ◌∷◌}
use lib.IntN.{pos}
use lib.Ieee.{fin, to_bits}
use Rattle.answer.specs.Refused.{minus_one, ran, refused}
use Rattle.report_line.specs.Line.{line_of}
use Rattle.report_line.specs.Numerals.{decimal, digits, glyph, pattern, places, places_in}

-- "For no bytes: `6 0 0 0 0 0` and four times `BFF0000000000000`."
pub no_bytes :
    line_of (refused 6)
    ≡
    54 ∷ 32 ∷ 48 ∷ 32 ∷ 48 ∷ 32 ∷ 48 ∷ 32 ∷ 48 ∷ 32 ∷ 48 ∷ 32 ∷ 66 ∷ 70 ∷ 70 ∷ 48 ∷ 48 ∷ 48 ∷ 48 ∷ 48 ∷ 48 ∷ 48 ∷
    48 ∷ 48 ∷ 48 ∷ 48 ∷ 48 ∷ 48 ∷ 32 ∷ 66 ∷ 70 ∷ 70 ∷ 48 ∷ 48 ∷ 48 ∷ 48 ∷ 48 ∷ 48 ∷ 48 ∷ 48 ∷ 48 ∷ 48 ∷ 48 ∷ 48 ∷
    48 ∷ 32 ∷ 66 ∷ 70 ∷ 70 ∷ 48 ∷ 48 ∷ 48 ∷ 48 ∷ 48 ∷ 48 ∷ 48 ∷ 48 ∷ 48 ∷ 48 ∷ 48 ∷ 48 ∷ 48 ∷ 32 ∷ 66 ∷ 70 ∷ 70 ∷
    48 ∷ 48 ∷ 48 ∷ 48 ∷ 48 ∷ 48 ∷ 48 ∷ 48 ∷ 48 ∷ 48 ∷ 48 ∷ 48 ∷ 48 ∷ 10 ∷ []
unfolding line_of decimal places pattern digits glyph places_in to_bits
no_bytes = refl

-- "For 4,096 zero bytes: `0 4033 4033 4033 1 0 3FF0000000000000 3FF0000000000000 BFF0000000000000 8000000000000000`"
pub zero_bytes :
    line_of (ran 1 0
    (record {
      c = 4033;
      n = 4033;
      max_run_len = 4033;
      p_global = fin false 1 (pos 0);
      p_global_prime = fin false 1 (pos 0);
      p_local = minus_one;
      min_entropy = fin true 0 (pos 0);
    }))
    ≡
    48 ∷ 32 ∷ 52 ∷ 48 ∷ 51 ∷ 51 ∷ 32 ∷ 52 ∷ 48 ∷ 51 ∷ 51 ∷ 32 ∷ 52 ∷ 48 ∷ 51 ∷ 51 ∷ 32 ∷ 49 ∷ 32 ∷ 48 ∷ 32 ∷ 51 ∷
    70 ∷ 70 ∷ 48 ∷ 48 ∷ 48 ∷ 48 ∷ 48 ∷ 48 ∷ 48 ∷ 48 ∷ 48 ∷ 48 ∷ 48 ∷ 48 ∷ 48 ∷ 32 ∷ 51 ∷ 70 ∷ 70 ∷ 48 ∷ 48 ∷ 48 ∷
    48 ∷ 48 ∷ 48 ∷ 48 ∷ 48 ∷ 48 ∷ 48 ∷ 48 ∷ 48 ∷ 48 ∷ 32 ∷ 66 ∷ 70 ∷ 70 ∷ 48 ∷ 48 ∷ 48 ∷ 48 ∷ 48 ∷ 48 ∷ 48 ∷ 48 ∷
    48 ∷ 48 ∷ 48 ∷ 48 ∷ 48 ∷ 32 ∷ 56 ∷ 48 ∷ 48 ∷ 48 ∷ 48 ∷ 48 ∷ 48 ∷ 48 ∷ 48 ∷ 48 ∷ 48 ∷ 48 ∷ 48 ∷ 48 ∷ 48 ∷ 48 ∷
    10 ∷ []
unfolding line_of decimal places pattern digits glyph places_in to_bits
zero_bytes = refl
