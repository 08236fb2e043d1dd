-- What the rest of the house may know of the symbol limit and of a width that is taken, without their numbers. Assumes nothing.
use mathlib.Core.Path.{◌≡◌}
use mathlib.Core.Bool.{false}
use mathlib.Core.List.{List}
use mathlib.Mathlib.Data.Bool.Basic.{or-eq-false-eq-eq-false-and-eq-false as neither}
use Prim.Native.Nat.{ℕ, ◌*◌, ◌≤◌, ◌<◌}
use native.Mathlib.Nat.{lt_of_le_of_lt, le_trans, mul-le-mul_left, mul-le-mul_right, pos_of_ne-zero}
use native.Mathlib.Omega.{arith}
use borrow.Author.Tests.{eqb-false, ltb-false}
use lib.Dec.{eqb, ltb}
use Rattle.capture.specs.Limit.{no_width, symbol_limit}
use lib.ListN.{length}
use Rattle.capture.specs.Inner.Sources.{IsSource}

-- a place of a capture, and eight times as much, are far below what a u64 holds
pub limit_small : symbol_limit * 8 < 4294967296
unfolding symbol_limit
limit_small = omega arith

-- the number of bits of a capture is far below what a u64 holds
pub bits_small : (n w : ℕ) → n ≤ symbol_limit → w ≤ 8 → n * w < 4294967296
bits_small n w h g = lt_of_le_of_lt (le_trans (mul-le-mul_right w h) (mul-le-mul_left symbol_limit g)) limit_small

-- and so is that of a source, or fewer of its bits
pub source_short : {symbols : List ℕ} {width count : ℕ} → IsSource symbols width → count ≤ length symbols * width → count < 4294967296
source_short S within = lt_of_le_of_lt within (bits_small _ _ S.short S.narrow)

-- a width that is taken: some bits, and no more than a byte has
pub record Width (w : ℕ) : Type 0 where
  pub some : 1 ≤ w
  pub narrow : w ≤ 8

pub width_taken : (w : ℕ) → no_width w ≡ false → Width w
unfolding no_width
width_taken w h =
    let t = (neither (eqb w 0) (ltb 8 w)).0 h in
    record { some = pos_of_ne-zero (eqb-false w 0 t.0); narrow = ltb-false 8 w t.1 }

pub source_asks : (s : List ℕ) (w : ℕ) → length s ≤ symbol_limit → no_width w ≡ false → IsSource s w
source_asks s w h n = let taken = width_taken w n in record { short = h; some = taken.some; narrow = taken.narrow }
