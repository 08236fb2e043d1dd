-- The natural logarithm of a double, by the reduction, the polynomial and the constants of fdlibm's e_log.c (Sun Microsystems, 1993), with one sum for every f:
-- x = 2 ^ k * (1 + f) with √½ ≤ 1 + f < √2, and ln x = k * ln 2 + ln (1 + f). Each sum, difference, product and quotient is rounded. Definitions only.
use Rattle.std.specs.Prelude.{ℕ, zero, suc, ◌-◌, ◌*◌, ◌/◌, ◌^◌, true, false, cond, ltb, Float}
use Rattle.std.specs.Float.{nan, inf, fin, binary64}
use Rattle.std.specs.Float.Ieee.{up, down, minus, size, round, of_int, of_bits}
use Rattle.rounding.specs.Doubles.{◌⊕◌, ◌⊖◌, ◌⊗◌, ◌⊘◌, half, one, two}

-- ---- ln (1 + f)

-- fdlibm's coefficients, near 2 / 3, 2 / 5, .. 2 / 15
abbrev pub lg1 : Float
lg1 = of_bits binary64 0x3fe5_5555_5555_5593

abbrev pub lg2 : Float
lg2 = of_bits binary64 0x3fd9_9999_9997_fa04

abbrev pub lg3 : Float
lg3 = of_bits binary64 0x3fd2_4924_9422_9359

abbrev pub lg4 : Float
lg4 = of_bits binary64 0x3fcc_71c5_1d8e_78af

abbrev pub lg5 : Float
lg5 = of_bits binary64 0x3fc7_4664_96cb_03de

abbrev pub lg6 : Float
lg6 = of_bits binary64 0x3fc3_9a09_d078_c69f

abbrev pub lg7 : Float
lg7 = of_bits binary64 0x3fc2_f112_df3e_5244

-- ln 2 in two parts
abbrev pub ln2_hi : Float
ln2_hi = of_bits binary64 0x3fe6_2e42_fee0_0000

abbrev pub ln2_lo : Float
ln2_lo = of_bits binary64 0x3dea_39ef_3579_3c76

-- lg1 * z + lg2 * z ^ 2 + .. + lg7 * z ^ 7, with w = z ^ 2
unfoldable pub tail : Float → Float
tail z =
    let w = z ⊗ z in
    z ⊗ (lg1 ⊕ w ⊗ (lg3 ⊕ w ⊗ (lg5 ⊕ w ⊗ lg7))) ⊕ w ⊗ (lg2 ⊕ w ⊗ (lg4 ⊕ w ⊗ lg6))

-- k * ln 2 + ln (1 + f). With s = f / (2 + f), ln (1 + f) = ln (1 + s) - ln (1 - s) = 2 * s + s * r, where r is the tail in s ^ 2,
-- and 2 * s = f - s * f = f - f ^ 2 / 2 + s * f ^ 2 / 2.
unfoldable pub series : Float → Float → Float
unfolding tail
series k f =
    let halfSquare = half ⊗ f ⊗ f in
    let s = f ⊘ (two ⊕ f) in
    let r = tail (s ⊗ s) in
    s ⊗ (halfSquare ⊕ r) ⊕ k ⊗ ln2_lo ⊖ halfSquare ⊕ f ⊕ k ⊗ ln2_hi

-- ---- x = 2 ^ k * (1 + f)

-- The j with √½ ≤ n / 2 ^ j < √2: the place of the leading one of n, or the next. `Reduction` of the proofs says so in squares.
unfoldable pub places : ℕ → ℕ
places n = let d = size n - 1 in cond (ltb (n * n) (2 * 4 ^ d)) d (suc d)

-- The logarithm of n smallest doubles, 2 ^ -1074 each: 1 + f is n / 2 ^ j, and k is j - 1074. Of a double's n neither is rounded.
unfoldable pub ln_units : ℕ → Float
unfolding places series
ln_units n = let j = places n in series (of_int binary64 (minus j 1074)) (round binary64 false n (2 ^ j) ⊖ one)

-- "The logarithm gives minus infinity at 0 and not a number below 0." Counted in the smallest doubles x is m * 2 ^ e * 2 ^ 1074 of them.
unfoldable pub ln_of : Float → Float
unfolding ln_units
ln_of nan = nan
ln_of (inf true) = nan
ln_of (inf false) = inf false
ln_of (fin s zero e) = inf true
ln_of (fin true (suc m) e) = nan
ln_of (fin false (suc m) e) = ln_units (suc m * up e * 2 ^ 1074 / down e)
