-- How long a capture may be, and how many bits its symbols have. Definitions only.
use Rattle.std.specs.Prelude.{ℕ, Bool, ◌||◌, List, eqb, ltb, length}

-- "more than 16,777,216 symbols" are too many
unfoldable pub symbol_limit : ℕ
symbol_limit = 16777216

abbrev pub over_limit : List ℕ → Bool
over_limit symbols = ltb symbol_limit (length symbols)

-- "Width 0 and widths above 8 are now refused"
unfoldable pub no_width : ℕ → Bool
no_width w = eqb w 0 || ltb 8 w
