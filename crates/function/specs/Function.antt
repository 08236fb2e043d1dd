-- The function whose root p_local is: for q = 1 - p and r = longest run + 1, with x the fixed point of 1 + q * p^r * x^(r+1), it is
-- ln (1 - p x) - ln ((r + 1 - r x) q) - (N + 1) ln x. Each step is rounded, in the order of document 001. Definitions only.
use Rattle.std.specs.Prelude.{ℕ, zero, suc, ◌+◌, false, cond, pos, Float}
use Rattle.std.specs.Float.{fin}
use Rattle.std.specs.Float.Ieee.{lt}
use Rattle.answer.specs.Numbers.{done, impossible, out_of_range}
use Rattle.answer.specs.Refused.{refused_value}
use Rattle.answer.specs.declared.Value.{Value}
use Rattle.rounding.specs.Doubles.{◌⊕◌, ◌⊖◌, ◌⊗◌, one, whole}
use Rattle.ln.specs.Ln.{ln_of}
use Rattle.power.specs.Power.{power_of}
use Rattle.counts.specs.Counts.{impossible_run, outside}
use Rattle.counts.specs.Doubles.{epsilon}

-- "each evaluation updates x at most 66 times"
abbrev pub updates : ℕ
updates = 66

-- one update of x; a is q * p^r
unfoldable pub updated : Float → ℕ → Float → Float
updated a r x = one ⊕ a ⊗ power_of x (r + 1)

-- x after at most k updates more: it is updated while it still grows by more than 2^-52 of itself
unfoldable pub settled : ℕ → Float → ℕ → Float → Float → Float
settled zero a r x last = x
settled (suc k) a r x last = cond (lt (epsilon ⊗ x) (x ⊖ last)) (settled k a r (updated a r x) x) x

unfoldable pub fixed_point : Float → ℕ → Float
fixed_point p r = settled updates ((one ⊖ p) ⊗ power_of p r) r one (fin false 0 (pos 0))

-- the three logarithms
unfoldable pub at_fixed_point : Float → Float → ℕ → ℕ → Float
at_fixed_point p x r n =
    ln_of (one ⊖ p ⊗ x) ⊖ ln_of ((whole r ⊕ one ⊖ whole r ⊗ x) ⊗ (one ⊖ p)) ⊖ (whole n ⊕ one) ⊗ ln_of x

-- the value at p for a longest run and N predictions
unfoldable pub value_at : Float → ℕ → ℕ → Float
value_at p run n = at_fixed_point p (fixed_point p (run + 1)) (run + 1) n

-- what `prediction_estimate_function` answers: "4 before 5"
unfoldable pub function_of : Float → ℕ → ℕ → Value
function_of p run n =
    cond (impossible_run run n) (refused_value impossible)
    (cond (outside p) (refused_value out_of_range) (record { number = done; value = value_at p run n }))
