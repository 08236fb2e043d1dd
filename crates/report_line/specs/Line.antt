-- "prints one line: number, C, N, run, k, rounds, then the bits of p_global, p_global', p_local and min-entropy in hex."
-- Definitions only.
use Rattle.std.specs.Prelude.{ℕ, cond, List, [], ◌∷◌, ◌++◌, ltb, Float, length, drop}
use Rattle.answer.specs.declared.Answer.{Answer}
use Rattle.answer.specs.declared.Estimate.{Estimate}
use Rattle.report_line.specs.Numerals.{decimal, pattern}

abbrev pub space : ℕ
space = 32

abbrev pub newline : ℕ
newline = 10

-- a number and the space after it
abbrev pub number : ℕ → List ℕ
number n = decimal n ++ (space ∷ [])

-- a double and the byte after it
abbrev pub double : Float → ℕ → List ℕ
double x after = pattern x ++ (after ∷ [])

-- number, C, N, run, k, rounds
unfoldable pub counts_of : Answer → List ℕ
counts_of a =
    number a.number
    ++ number a.estimate.c
    ++ number a.estimate.n
    ++ number a.estimate.max_run_len
    ++ number a.k
    ++ number a.rounds

-- p_global, p_global', p_local and min-entropy
unfoldable pub estimates_of : Estimate → List ℕ
estimates_of e =
    double e.p_global space
    ++ double e.p_global_prime space
    ++ double e.p_local space
    ++ double e.min_entropy newline

-- the line
unfoldable pub line_of : Answer → List ℕ
unfolding counts_of estimates_of
line_of a = counts_of a ++ estimates_of a.estimate

-- the longest line: six numbers of at most 20 digits, four of 16, and a byte after each
abbrev pub longest : ℕ
longest = 194

-- what is left in a slice: the line at its start, and the rest as it was; all as it was where the slice is shorter
-- than the longest line
unfoldable pub line_in : Answer → List ℕ → List ℕ
unfolding line_of
line_in a out = cond (ltb (length out) longest) out (line_of a ++ drop (length (line_of a)) out)

-- the length of the line in it
unfoldable pub length_in : Answer → List ℕ → ℕ
unfolding line_of
length_in a out = cond (ltb (length out) longest) 0 (length (line_of a))
