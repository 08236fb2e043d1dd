-- The two cases of the bound. Assumes nothing.
use Rattle.std.proofs.Common.{◌≡◌, ℕ, ◌-◌, ◌^◌, refl, ne_eqb}
use Rattle.rounding.specs.Doubles.{one}
use Rattle.zero_count.specs.ZeroCount.{places, fraction, root_digits, zero_count_bound}

pub bound_of_none : zero_count_bound 0 ≡ one
unfolding zero_count_bound
bound_of_none = refl

pub bound_of_some : (n : ℕ) → (n ≡ 0 → ⊥) → zero_count_bound n ≡ fraction places (2 ^ places - root_digits places n)
unfolding zero_count_bound
bound_of_some n h = rw (ne_eqb n 0 h)
