-- `ln::reduced` meets its contract. The test on q is the definition's test on its square, the pattern that is made is that of q / 2 ^ 52, or of half
-- of it, and the
-- exponent is the place of the leading one, or one more. Assumes nothing.
-- ---- the two cases of `ln_at`
use mathlib.Core.Path.{◌≡◌, refl, sym, ap, ◌∙◌}
use Prim.Native.Nat.{ℕ, suc, ◌^◌, ◌≤◌, ◌<◌}
use native.Mathlib.Numerals.{add-one}
use native.Mathlib.Omega.{arith}
use mathlib.Core.Bool.{Bool, false, cond}
use lib.Ieee.{Float, binary64, minus, round, of_int}
use Rattle.rounding.specs.Doubles.{◌⊖◌, one}
use Rattle.ln.specs.Ln.{series}
use Rattle.ln.specs.Inner.Steps.{ln_at}
use Rattle.ln.proofs.Literals.{one_is}
use Rattle.ln.proofs.Fraction.{fraction_is, fraction_no_nan}
use Rattle.ln.proofs.Reduction.{under_root, over_root}
use Rattle.ln.proofs.reduced.Goals as goal

abbrev whole : ℕ → ℕ → Float
whole q place = series (of_int binary64 (minus place 1074)) (round binary64 false q (2 ^ 52) ⊖ one)

abbrev halved : ℕ → ℕ → Float
halved q place = series (of_int binary64 (minus (suc place) 1074)) (round binary64 false q (2 ^ 53) ⊖ one)

at_under : (q place : ℕ) → q < 6369051672525773 → whole q place ≡ ln_at q place
unfolding ln_at
at_under q place h = sym (ap (λ (t : Bool). cond t (whole q place) (halved q place)) (under_root q h))

at-over : (q place : ℕ) → 6369051672525773 ≤ q → halved q place ≡ ln_at q place
unfolding ln_at
at-over q place h = sym (ap (λ (t : Bool). cond t (whole q place) (halved q place)) (over_root q h))

pub float_from_bits-q : goal.float_from_bits-q
float_from_bits-q c = fraction_no_nan c.args.x.digits 1022 52 c.args.x.in_range.0 c.args.x.in_range.1 (omega arith) refl

pub float_from_bits-q-else-q-lt6369051672525773 : goal.float_from_bits-q-else-q-lt6369051672525773
float_from_bits-q-else-q-lt6369051672525773 c = fraction_no_nan c.args.x.digits 1021 53 c.args.x.in_range.0 c.args.x.in_range.1 (omega arith) refl

pub returns-then-q-lt6369051672525773 : goal.returns-then-q-lt6369051672525773
returns-then-q-lt6369051672525773 c =
    c.series.ensures
    ∙ (λ i. series (c.exponent_of.ensures i) (fraction_is c.args.x.digits 1022 52 c.args.x.in_range.0 c.args.x.in_range.1 (omega arith) refl i ⊖ one_is i))
    ∙ at_under c.args.x.digits c.args.x.place c.if-q-lt6369051672525773.true

pub returns-else-q-lt6369051672525773 : goal.returns-else-q-lt6369051672525773
returns-else-q-lt6369051672525773 c =
    c.series-else-q-lt6369051672525773.ensures
    ∙ (λ i. series (c.exponent_of-else-q-lt6369051672525773.ensures i) (fraction_is c.args.x.digits 1021 53 c.args.x.in_range.0 c.args.x.in_range.1 (omega arith) refl i ⊖ one_is i))
    ∙ ap (λ (n : ℕ). series (of_int binary64 (minus n 1074)) (round binary64 false c.args.x.digits (2 ^ 53) ⊖ one)) (add-one c.args.x.place)
    ∙ at-over c.args.x.digits c.args.x.place c.if-q-lt6369051672525773.false
