-- The bisection begins no more rounds than it is given, since each that is begun leaves one less. So it begins 1,076 at most. Assumes nothing.
use Prim.Native.Nat.{ℕ, zero, suc, ◌≤◌, zero-le, suc-le-suc}
use native.Mathlib.Omega.{arith}
use lib.Ieee.{Float}
use Rattle.bisect.specs.Bisection.{Turn, local_rounds, opening, round_limit, rounds_begun, rounds_of, turned}
use Rattle.bisect.specs.declared.bracket.Bracket.{Bracket}
use Rattle.std.specs.declared.ops.ControlFlow.TheVariants.{Break, Continue}

by_turn : (k : ℕ) (t : Turn) (f : Bracket → ℕ) → ((b : Bracket) → f b ≤ k) → rounds_of t f ≤ suc k
by_turn k (Break p) f h = suc-le-suc zero-le
by_turn k (Continue b) f h = omega (arith, h b)

pub rounds_few : (k : ℕ) (b : Bracket) (ldomain : Float) (run n : ℕ) → rounds_begun k b ldomain run n ≤ k
unfolding rounds_begun
rounds_few zero b ldomain run n = zero-le
rounds_few (suc k) b ldomain run n =
    by_turn k (turned b ldomain run n) (λ next. rounds_begun k next ldomain run n) (λ next. rounds_few k next ldomain run n)

-- "at most 1,076"
pub local_rounds_few : (ldomain : Float) (run n : ℕ) → local_rounds ldomain run n ≤ round_limit
unfolding local_rounds
local_rounds_few ldomain run n = rounds_few round_limit (opening ldomain run n) ldomain run n
