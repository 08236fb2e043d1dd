-- `ln::ln` meets its contract. What is below zero gives a NaN and a zero minus infinity; a NaN and the infinity are returned as they are; what is left has
-- a pattern between those of 0 and of the infinity, and `positive` has its logarithm. Assumes nothing.
use mathlib.Core.Path.{sym, ap, ◌∙◌, subst}
use lib.Dec.{T}
use lib.Ieee.{binary64, fits, to_bits, of_bits, eq, lt}
use lib.Ieee.Bits.{of_bits-to_bits}
use Rattle.sqrt.proofs.AboveZero.{naught_is, Between, positive_pattern}
use Rattle.sqrt.proofs.Special.{nan_is}
use Rattle.ln.specs.Ln.{ln_of}
use Rattle.ln.proofs.Literals.{minus_infinity_is}
use Rattle.ln.proofs.Special.{ln_of_naught, ln_of_negative, ln_of_infinite, ln_of_pattern}
use Rattle.ln.proofs.ln.Goals as goal

pub returns-then-x : goal.returns-then-x
returns-then-x c = let x = c.args.x in nan_is ∙ sym (ln_of_negative x (ap (lt x) (sym naught_is) ∙ c.if-x.true))

pub returns-then-x-2 : goal.returns-then-x-2
returns-then-x-2 c = let x = c.args.x in minus_infinity_is ∙ sym (ln_of_naught x (ap (eq x) (sym naught_is) ∙ c.if-x-2.true))

pub returns-then-not-is_finite : goal.returns-then-not-is_finite
returns-then-not-is_finite c =
    let x = c.args.x in
    ln_of_infinite x (ap (lt x) (sym naught_is) ∙ c.if-x.false) (sym c.is_finite.ensures.value ∙ c.if-not-is_finite.true)

pub positive-requires : goal.positive-requires
positive-requires c =
    positive_pattern c.args.x (of_bits binary64 0) (subst T (sym c.well_formed.0.1) tt) naught_is c.if-x.false c.if-x-2.false
    (sym c.is_finite.ensures.value ∙ c.if-not-is_finite.false)

pub returns : goal.returns
returns c =
    let b = to_bits binary64 c.args.x in
    let held : T (fits binary64 c.args.x) = subst T (sym c.well_formed.0.1) tt in
    let w : Between b =
    positive_pattern c.args.x (of_bits binary64 0) held naught_is c.if-x.false c.if-x-2.false (sym c.is_finite.ensures.value ∙ c.if-not-is_finite.false) in
    c.positive.ensures ∙ sym (ln_of_pattern b w.0 w.1) ∙ ap ln_of (of_bits-to_bits binary64 c.args.x held)
