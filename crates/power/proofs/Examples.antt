-- Powers by computing, with the patterns that the hardware gives. Assumes nothing.
use mathlib.Core.Path.{◌≡◌, refl}
use lib.Ieee.{binary64, mul, size, of_bits}
use Rattle.power.specs.Power.{power_of}

-- 1.5 ^ 5 = 7.59375
exact : power_of (of_bits binary64 0x3ff8_0000_0000_0000) 5 ≡ of_bits binary64 0x401e_6000_0000_0000
unfolding power_of mul of_bits size
exact = refl
