-- `sqrt::sqrt` meets its contract. What is below zero has a NaN for its root; a zero, a NaN and the infinity are returned as they are; what is left has a
-- pattern between those of 0 and of the infinity, and `positive` makes the pattern of its root. Assumes nothing.
use mathlib.Core.Path.{sym, ap, ◌∙◌, subst}
use lib.Dec.{T}
use lib.Ieee.{binary64, fits, to_bits, of_bits, eq, lt}
use lib.Ieee.Bits.{of_bits-to_bits}
use Rattle.sqrt.specs.Sqrt.{sqrt_of}
use Rattle.sqrt.proofs.AboveZero.{naught_is, Between, positive_pattern}
use Rattle.sqrt.proofs.Special.{nan_is, root_of_naught, root_of_negative, root_of_infinite, root_of_pattern, made, made_no_nan}
use Rattle.sqrt.proofs.sqrt.Goals as goal

pub returns-then-x : goal.returns-then-x
returns-then-x c =
    let x = c.args.x in
    nan_is ∙ sym (root_of_negative binary64 x (ap (lt x) (sym naught_is) ∙ c.if-x.true))

pub returns-then-x-2 : goal.returns-then-x-2
returns-then-x-2 c = let x = c.args.x in root_of_naught binary64 x (ap (eq x) (sym naught_is) ∙ c.if-x-2.true)

pub returns-then-not-is_finite : goal.returns-then-not-is_finite
returns-then-not-is_finite c =
    let x = c.args.x in
    root_of_infinite binary64 x (ap (lt x) (sym naught_is) ∙ c.if-x.false) (sym c.is_finite.ensures.value ∙ c.if-not-is_finite.true)

pub positive-requires : goal.positive-requires
positive-requires c =
    positive_pattern c.args.x (of_bits binary64 0) (subst T (sym c.well_formed.0.1) tt) naught_is c.if-x.false c.if-x-2.false
    (sym c.is_finite.ensures.value ∙ c.if-not-is_finite.false)

pub float_from_bits-result : goal.float_from_bits-result
float_from_bits-result c = made_no_nan _ c.positive.result c.positive.ensures

pub returns : goal.returns
returns c =
    let b = to_bits binary64 c.args.x in
    let held : T (fits binary64 c.args.x) = subst T (sym c.well_formed.0.1) tt in
    let w : Between b =
    positive_pattern c.args.x (of_bits binary64 0) held naught_is c.if-x.false c.if-x-2.false (sym c.is_finite.ensures.value ∙ c.if-not-is_finite.false) in
    made _ c.positive.result c.positive.ensures ∙ sym (root_of_pattern b w.0 w.1)
    ∙ ap (sqrt_of binary64) (of_bits-to_bits binary64 c.args.x held)
