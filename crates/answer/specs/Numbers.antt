-- The answer numbers of documents 01 and 02, each given exactly when its line says. Definitions only.
use Rattle.std.specs.Prelude.{ℕ, Bool, ◌||◌, leb, eqb}

-- done
abbrev pub done : ℕ
done = 0

-- more symbols than the limit
abbrev pub too_long : ℕ
too_long = 1

-- a lent buffer is shorter than stated, or a bit is asked for past the capture's end
abbrev pub too_short : ℕ
too_short = 2

-- width 1 and a symbol above 1
abbrev pub too_wide : ℕ
too_wide = 3

-- counts that cannot be
abbrev pub impossible : ℕ
impossible = 4

-- a probability or entropy outside its range, or not a number
abbrev pub out_of_range : ℕ
out_of_range = 5

-- not run: fewer samples than the estimator needs
abbrev pub not_run : ℕ
not_run = 6

-- "Width 0 and widths above 8"
abbrev pub bad_width : ℕ
bad_width = 7

-- of a record: "a wrong length, kind or end of input"
abbrev pub bad_frame : ℕ
bad_frame = 8

-- of a record: what stands in it, or is to, is no answer
abbrev pub bad_answer : ℕ
bad_answer = 9

-- of a running test: "a sample before a start, or .. a state that no start and samples could have left"
abbrev pub bad_state : ℕ
bad_state = 10

-- "given by then": the numbers that a result can have. 8 and 9 are said of a record and stand in none.
unfoldable pub given : ℕ → Bool
given n = leb n bad_width || eqb n bad_state
