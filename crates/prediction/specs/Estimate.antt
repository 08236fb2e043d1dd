-- The estimate of C correct of N predictions with a longest run, over an alphabet of k symbols, in the order of document 001. Definitions only.
use Rattle.std.specs.Prelude.{ℕ, Bool, cond, ◌&&◌, eqb, Float}
use Rattle.std.specs.Float.{binary64}
use Rattle.std.specs.Float.Ieee.{lt}
use Rattle.answer.specs.Numbers.{impossible}
use Rattle.answer.specs.Refused.{minus_one, refused, ran}
use Rattle.answer.specs.declared.Answer.{Answer}
use Rattle.answer.specs.declared.Estimate.{Estimate}
use Rattle.entropy.specs.MinEntropy.{min_entropy_of}
use Rattle.rounding.specs.Doubles.{◌⊕◌, ◌⊖◌, ◌⊗◌, ◌⊘◌, zero, one, whole}
use Rattle.sqrt.specs.Sqrt.{sqrt_of}
use Rattle.zero_count.specs.ZeroCount.{zero_count_bound}
use Rattle.bisect.specs.Bisection.{log_alpha, local_value, local_rounds}
use Rattle.counts.specs.Counts.{impossible_counts}
use Rattle.counts.specs.Doubles.{z995, at_most_one, larger}
use Rattle.function.specs.Function.{value_at}

-- C / N; "N = 0 gives 1, and p_global is 0 there"
unfoldable pub p_global : ℕ → ℕ → Float
p_global c n = cond (eqb n 0) zero (whole c ⊘ whole n)

-- "p + z * sqrt(p(1-p)/(N-1)), at most 1"
unfoldable pub upper_bound : Float → ℕ → Float
upper_bound p n = at_most_one (p ⊕ z995 ⊗ sqrt_of binary64 (p ⊗ (one ⊖ p) ⊘ (whole n ⊖ one)))

-- "With p_global above 0 .. ; with none right it is 1 - 0.01^(1/N)."
unfoldable pub prime_of : Float → ℕ → Float
prime_of p n = cond (lt zero p) (upper_bound p n) (zero_count_bound n)

abbrev pub p_global_prime : ℕ → ℕ → Float
p_global_prime c n = prime_of (p_global c n) n

-- the larger of 1/k and p_global'
unfoldable pub floor_from : Float → ℕ → Float
floor_from prime k = larger (one ⊘ whole k) prime

abbrev pub floor_of : ℕ → ℕ → ℕ → Float
floor_of c n k = floor_from (p_global_prime c n) k

-- whether p_local can raise the estimate: "p_local is -1.0 unless solved"
unfoldable pub can_raise : Float → ℕ → ℕ → Bool
can_raise floor run n = lt floor one && lt log_alpha (value_at floor run n)

unfoldable pub p_local : Float → ℕ → ℕ → Float
p_local floor run n = cond (can_raise floor run n) (local_value floor run n) minus_one

unfoldable pub rounds_for : Float → ℕ → ℕ → ℕ
rounds_for floor run n = cond (can_raise floor run n) (local_rounds floor run n) 0

-- "the largest of 1/k, p_global', p_local"
unfoldable pub largest : ℕ → ℕ → ℕ → ℕ → Float
largest c n run k = larger (floor_of c n k) (p_local (floor_of c n k) run n)

unfoldable pub estimate : ℕ → ℕ → ℕ → ℕ → Estimate
estimate c n run k =
    record {
      c = c;
      n = n;
      max_run_len = run;
      p_global = p_global c n;
      p_global_prime = p_global_prime c n;
      p_local = p_local (floor_of c n k) run n;
      min_entropy = (min_entropy_of (largest c n run k)).value;
    }

-- the answer of counts that can be
unfoldable pub estimated_of : ℕ → ℕ → ℕ → ℕ → Answer
estimated_of c n run k = ran k (rounds_for (floor_of c n k) run n) (estimate c n run k)

-- what `prediction_estimate` answers
unfoldable pub estimate_of : ℕ → ℕ → ℕ → ℕ → Answer
estimate_of c n run k = cond (impossible_counts c n run k) (refused impossible) (estimated_of c n run k)
