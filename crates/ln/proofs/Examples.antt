-- Logarithms by computing. Assumes nothing.
use mathlib.Core.Path.{◌≡◌, refl}
use lib.Ieee.{binary64, of_bits, size, round, of_int, add, sub, mul, div}
use Rattle.ln.specs.Ln.{ln_of, ln_units, places, series, tail}

-- ln 1 = 0
one : ln_of (of_bits binary64 0x3ff0_0000_0000_0000) ≡ of_bits binary64 0
unfolding ln_of ln_units places series tail size round of_int of_bits add sub mul div
one = refl

-- ln 0.99, as Rust has it
most : ln_of (of_bits binary64 0x3fef_ae14_7ae1_47ae) ≡ of_bits binary64 0xbf84_9545_3e6f_d4bc
unfolding ln_of ln_units places series tail size round of_int of_bits add sub mul div
most = refl

-- the smallest double, 2 ^ -1074
smallest : ln_of (of_bits binary64 1) ≡ of_bits binary64 0xc087_4385_446d_71c3
unfolding ln_of ln_units places series tail size round of_int of_bits add sub mul div
smallest = refl
