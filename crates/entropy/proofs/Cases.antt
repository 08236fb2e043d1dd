-- The cases of the definition, one law for each. Assumes nothing.
use mathlib.Core.Path.{◌≡◌, refl}
use Prim.Native.Nat.{◌+◌, ◌-◌, ◌*◌}
use mathlib.Core.Bool.{true, false}
use lib.Dec.{T}
use lib.Ieee.{Float, binary64, of_bits, le, eq}
use lib.Ieee.Bits.{is_true}
use Rattle.answer.specs.Numbers.{done, out_of_range}
use Rattle.answer.specs.Refused.{refused_value}
use Rattle.rounding.specs.Doubles.{one, least}
use Rattle.entropy.specs.Entropy.{units, whole_bits, leading, log_digits, entropy_units, entropy_of}
use Rattle.entropy.specs.MinEntropy.{min_entropy_of}

-- ---- the figure in units
pub units_at_power : (p : Float) → eq (leading p) one ≡ true → entropy_units p ≡ whole_bits p * units
unfolding entropy_units
units_at_power p e = rw e

pub units_between : (p : Float) → eq (leading p) one ≡ false → entropy_units p ≡ whole_bits p * units - (log_digits 24 (leading p) + 2)
unfolding entropy_units
units_between p e = rw e

-- ---- the answer

-- the code's literals
pub one_is : of_bits binary64 0x3ff0_0000_0000_0000 ≡ one
unfolding of_bits
one_is = refl

pub least_is : of_bits binary64 0x3f70_0000_0000_0000 ≡ least
unfolding of_bits
least_is = refl

pub answer_in_lem : (p : Float) → le least p ≡ true → le p one ≡ true → min_entropy_of p ≡ record { number = done; value = entropy_of p }
unfolding min_entropy_of
answer_in_lem p e g = rw (e, g)

pub answer_low : (p : Float) → le least p ≡ false → min_entropy_of p ≡ refused_value out_of_range
unfolding min_entropy_of
answer_low p e = rw e

pub answer_high : (p : Float) → le least p ≡ true → le p one ≡ false → min_entropy_of p ≡ refused_value out_of_range
unfolding min_entropy_of
answer_high p e g = rw (e, g)

-- a p in range is answered with number 0 and its entropy
pub in_range_answer : (p : Float) → T (le least p) → T (le p one) → min_entropy_of p ≡ record { number = done; value = entropy_of p }
in_range_answer p lo hi = answer_in_lem p (is_true (le least p) lo) (is_true (le p one) hi)

pub in_range_number : (p : Float) → T (le least p) → T (le p one) → (min_entropy_of p).number ≡ done
in_range_number p lo hi = rw (in_range_answer p lo hi)

pub in_range_value : (p : Float) → T (le least p) → T (le p one) → (min_entropy_of p).value ≡ entropy_of p
in_range_value p lo hi = rw (in_range_answer p lo hi)
