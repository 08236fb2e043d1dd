-- Roots by computing, with the patterns that the hardware gives. Assumes nothing.
use mathlib.Core.Path.{◌≡◌, refl}
use lib.Ieee.{binary64, of_bits, size, units}
use Rattle.sqrt.specs.Root.{root}
use Rattle.sqrt.specs.Sqrt.{sqrt_of, rounded}

-- √2
two : sqrt_of binary64 (of_bits binary64 0x4000_0000_0000_0000) ≡ of_bits binary64 0x3ff6_a09e_667f_3bcd
unfolding sqrt_of rounded of_bits root size units
two = refl

-- the largest double
largest : sqrt_of binary64 (of_bits binary64 0x7fef_ffff_ffff_ffff) ≡ of_bits binary64 0x5fef_ffff_ffff_ffff
unfolding sqrt_of rounded of_bits root size units
largest = refl

-- the smallest, 2 ^ -1074
smallest : sqrt_of binary64 (of_bits binary64 1) ≡ of_bits binary64 0x1e60_0000_0000_0000
unfolding sqrt_of rounded of_bits root size units
smallest = refl

-- a subnormal
three : sqrt_of binary64 (of_bits binary64 3) ≡ of_bits binary64 0x1e6b_b67a_e858_4caa
unfolding sqrt_of rounded of_bits root size units
three = refl

-- below 1
below_one : sqrt_of binary64 (of_bits binary64 0x3fef_ffff_ffff_ffff) ≡ of_bits binary64 0x3fef_ffff_ffff_ffff
unfolding sqrt_of rounded of_bits root size units
below_one = refl
