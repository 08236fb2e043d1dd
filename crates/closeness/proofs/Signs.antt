-- The methods of std answer what the definitions here say of a double's sign and magnitude, by cases. Assumes nothing.
use mathlib.Core.Path.{◌≡◌, refl}
use mathlib.Core.Bool.{false}
use lib.Ieee.{Float, nan, inf, fin, binary64, of_bits}
use Rattle.std.specs.Float.{float_with_sign, float_is_infinite, is_sign_negative}
use Rattle.closeness.specs.Magnitude.{magnitude, is_infinite, is_negative}
use Rattle.closeness.specs.Close.{min_positive}

pub abs_is : (x : Float) → float_with_sign false x ≡ magnitude x
unfolding float_with_sign magnitude
abs_is nan = refl
abs_is (inf s) = refl
abs_is (fin s m e) = refl

pub infinite_is : (x : Float) → float_is_infinite x ≡ is_infinite x
unfolding float_is_infinite is_infinite
infinite_is nan = refl
infinite_is (inf s) = refl
infinite_is (fin s m e) = refl

pub negative_is : (x : Float) → is_sign_negative x ≡ is_negative x
unfolding is_sign_negative is_negative
negative_is nan = refl
negative_is (inf s) = refl
negative_is (fin s m e) = refl

-- f64::MIN_POSITIVE
pub least_is : of_bits binary64 0x10_0000_0000_0000 ≡ min_positive
unfolding of_bits
least_is = refl

-- the four, for the functions below to name
pub ruleset std_is = (abs_is, infinite_is, negative_is, least_is)
