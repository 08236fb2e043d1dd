-- The code's literals are the numbers of the definition. Assumes nothing.
use mathlib.Core.Path.{◌≡◌, refl}
use mathlib.Core.Bool.{true}
use lib.Ieee.{inf, binary64, of_bits}
use Rattle.rounding.specs.Doubles.{half, one, two}

pub half_is : of_bits binary64 0x3fe0_0000_0000_0000 ≡ half
unfolding of_bits
half_is = refl

pub one_is : of_bits binary64 0x3ff0_0000_0000_0000 ≡ one
unfolding of_bits
one_is = refl

pub two_is : of_bits binary64 0x4000_0000_0000_0000 ≡ two
unfolding of_bits
two_is = refl

pub minus_infinity_is : of_bits binary64 0xfff0_0000_0000_0000 ≡ inf true
unfolding of_bits
minus_infinity_is = refl
