-- The floats of the definitions, as the code has them. Assumes nothing.
use mathlib.Core.Path.{◌≡◌, refl}
use lib.Ieee.{binary64, neg, of_bits}
use Rattle.answer.specs.Refused.{minus_one}
use Rattle.rounding.specs.Doubles.{one, eight}

pub one_is : of_bits binary64 0x3ff0000000000000 ≡ one
unfolding of_bits
one_is = refl

pub eight_is : of_bits binary64 0x4020000000000000 ≡ eight
unfolding of_bits
eight_is = refl

pub minus_one_is : neg (of_bits binary64 0x3ff0000000000000) ≡ minus_one
unfolding of_bits neg
minus_one_is = refl
