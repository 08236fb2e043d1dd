-- The root of a double from 0 up, other than the infinity, is a double from 0 up and finite: no NaN. Assumes nothing.
use mathlib.Core.Path.{sym, subst}
use Prim.Native.Nat.{zero, suc, ◌^◌}
use mathlib.Core.Bool.{true, false}
use lib.Dec.{T}
use lib.Ieee.{Float, nan, inf, fin, binary64, of_bits, to_bits, fits}
use lib.Ieee.Bits.{of_bits-to_bits}
use Rattle.rounding.proofs.FromZero.{nonneg, nonneg_of_value}
use Rattle.sqrt.specs.Sqrt.{sqrt_of}
use Rattle.sqrt.proofs.AboveZero.{finite_pattern}
use Rattle.sqrt.proofs.Special.{root_of_zero}
use Rattle.sqrt.proofs.CorrectRounding.{correctly_rounded}

pub root_nonneg : (x : Float) → T (fits binary64 x) → T (nonneg x) → T (nonneg (sqrt_of binary64 x))
root_nonneg nan h p = absurd p
root_nonneg (inf s) h p = absurd p
root_nonneg (fin true m e) h p = absurd p
root_nonneg (fin false zero e) h p = subst (λ (v : Float). T (nonneg v)) (sym (root_of_zero binary64 false e)) tt
root_nonneg (fin false (suc m) e) h p =
    let x = fin false (suc m) e in
    let w = finite_pattern m e h in
    let r = correctly_rounded (to_bits binary64 x) w.0 w.1 in
    subst (λ (v : Float). T (nonneg (sqrt_of binary64 v))) (of_bits-to_bits binary64 x h)
    (nonneg_of_value (sqrt_of binary64 (of_bits binary64 (to_bits binary64 x))) r.0 (2 ^ 1074) r.1)
