-- The bisection for p_local, with its interval checks and its cycle check in the order of document 001. Definitions only.
use Rattle.std.specs.Prelude.{ℕ, zero, suc, ◌+◌, Bool, true, false, cond, not, ◌||◌, Float}
use Rattle.std.specs.Float.{inf}
use Rattle.std.specs.declared.ops.ControlFlow.{ControlFlow}
use Rattle.std.specs.declared.ops.ControlFlow.TheVariants.{Break, Continue}
use Rattle.std.specs.Float.Ieee.{lt, le, eq}
use Rattle.answer.specs.Numbers.{done, impossible, out_of_range}
use Rattle.answer.specs.Refused.{refused_solved}
use Rattle.answer.specs.declared.Solved.{Solved}
use Rattle.closeness.specs.Close.{min_positive, rel_epsilon_equal}
use Rattle.rounding.specs.Doubles.{◌⊕◌, ◌⊘◌, one, two}
use Rattle.ln.specs.Ln.{ln_of}
use Rattle.counts.specs.Counts.{impossible_run, outside}
use Rattle.counts.specs.Doubles.{epsilon, decimal, larger, at_most_one, in_closed, in_open}
use Rattle.function.specs.Function.{value_at}
use Rattle.bisect.specs.declared.bracket.Bracket.{Bracket}

-- "at most 1,076" rounds are begun
abbrev pub round_limit : ℕ
round_limit = 1076

-- ln 0.99, the value that is sought
unfoldable pub log_alpha : Float
log_alpha = ln_of (decimal 99 100)

-- "reached equality?"
unfoldable pub reached : Float → Bool
reached v = rel_epsilon_equal v log_alpha min_positive epsilon 4

unfoldable pub midpoint : Float → Float → Float
midpoint a b = (a ⊕ b) ⊘ two

-- the bounds, with what was found there, after the value at p is held against ln 0.99
unfoldable pub narrowed : Bracket → Bracket
narrowed b =
    cond (lt log_alpha b.p_val)
    (record { lbound = b.p; hbound = b.hbound; lvalue = b.p_val; hvalue = b.hvalue; p = b.p; p_val = b.p_val })
    (record { lbound = b.lbound; hbound = b.p; lvalue = b.lvalue; hvalue = b.p_val; p = b.p; p_val = b.p_val })

-- the next p, half way, and the value there
unfoldable pub halved : Bracket → ℕ → ℕ → Bracket
halved b run n =
    let m = midpoint b.lbound b.hbound in
    record { lbound = b.lbound; hbound = b.hbound; lvalue = b.lvalue; hvalue = b.hvalue; p = m; p_val = value_at m run n }

-- what a round comes to: it breaks off with the solution, or goes on with narrower bounds
abbrev pub Turn : Type 0
Turn = ControlFlow Float Bracket

-- the last checks of a round: p strictly within its bounds, no cycle, and the value there within the values of the bounds
unfoldable pub advanced : Bracket → Bracket → Turn
advanced b next =
    cond (not (in_open next.p b.lbound b.hbound)) (Break b.hbound)
    (cond (eq b.p next.p) (Break b.hbound)
    (cond (not (in_closed next.p_val b.lvalue b.hvalue)) (Break b.hbound) (Continue next)))

-- the checks on bounds that were just narrowed
unfoldable pub checked : Bracket → Float → ℕ → ℕ → Turn
checked b ldomain run n =
    cond (le b.hbound b.lbound) (Break (at_most_one (larger b.lbound b.hbound)))
    (cond (not (in_closed b.lbound ldomain one) || not (in_closed b.hbound ldomain one)) (Break one)
    (cond (not (in_closed log_alpha b.lvalue b.hvalue)) (Break one) (advanced b (halved b run n))))

-- one round
unfoldable pub turned : Bracket → Float → ℕ → ℕ → Turn
turned b ldomain run n = cond (reached b.p_val) (Break b.p) (checked (narrowed b) ldomain run n)

-- of a round: its solution, or what f makes of the narrower bounds
abbrev pub value_of : Turn → (Bracket → Float) → Float
value_of (Break p) f = p
value_of (Continue b) f = f b

abbrev pub rounds_of : Turn → (Bracket → ℕ) → ℕ
rounds_of (Break p) f = 1
rounds_of (Continue b) f = 1 + f b

-- the solution, and the number of rounds begun, with at most k rounds more
unfoldable pub solution : ℕ → Bracket → Float → ℕ → ℕ → Float
solution zero b ldomain run n = b.p
solution (suc k) b ldomain run n = value_of (turned b ldomain run n) (λ next. solution k next ldomain run n)

unfoldable pub rounds_begun : ℕ → Bracket → Float → ℕ → ℕ → ℕ
rounds_begun zero b ldomain run n = 0
rounds_begun (suc k) b ldomain run n = rounds_of (turned b ldomain run n) (λ next. rounds_begun k next ldomain run n)

-- the bracket at the start: the whole domain, with no values found at its ends
unfoldable pub opening : Float → ℕ → ℕ → Bracket
opening ldomain run n =
    let m = midpoint ldomain one in
    record { lbound = ldomain; hbound = one; lvalue = inf false; hvalue = inf true; p = m; p_val = value_at m run n }

unfoldable pub local_value : Float → ℕ → ℕ → Float
local_value ldomain run n = solution round_limit (opening ldomain run n) ldomain run n

unfoldable pub local_rounds : Float → ℕ → ℕ → ℕ
local_rounds ldomain run n = rounds_begun round_limit (opening ldomain run n) ldomain run n

abbrev pub solved_from : Float → ℕ → ℕ → Solved
solved_from ldomain run n = record { number = done; rounds = local_rounds ldomain run n; value = local_value ldomain run n }

-- what `calc_p_local` answers: "4 before 5"
unfoldable pub local_of : ℕ → ℕ → Float → Solved
local_of run n ldomain =
    cond (impossible_run run n) (refused_solved impossible)
    (cond (outside ldomain) (refused_solved out_of_range)
    (solved_from ldomain run n))
