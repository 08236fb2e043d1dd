-- `ln::series` meets its contract. The code is the definition, word for word, over what the call of `tail` returned. Assumes nothing.
use mathlib.Core.Path.{ap, ◌∙◌}
use lib.Ieee.{Float, binary64, of_bits}
use Rattle.rounding.specs.Doubles.{◌⊕◌, ◌⊖◌, ◌⊗◌, ◌⊘◌}
use Rattle.ln.specs.Ln.{ln2_lo, ln2_hi, tail, series}
use Rattle.ln.proofs.Literals.{half_is, two_is}
use Rattle.ln.proofs.series.Goals as goal

-- the sum, for any two literals and any tail
abbrev sum : Float → Float → Float → Float → Float → Float
sum h t r k f = f ⊘ (t ⊕ f) ⊗ (h ⊗ f ⊗ f ⊕ r) ⊕ k ⊗ ln2_lo ⊖ h ⊗ f ⊗ f ⊕ f ⊕ k ⊗ ln2_hi

pub returns : goal.returns
unfolding series
returns c =
    let a = c.args in
    ap (λ (r : Float). sum (of_bits binary64 0x3fe0_0000_0000_0000) (of_bits binary64 0x4000_0000_0000_0000) r a.k a.f) c.tail-r.ensures
    ∙ λ i. sum (half_is i) (two_is i) (tail (a.f ⊘ (two_is i ⊕ a.f) ⊗ (a.f ⊘ (two_is i ⊕ a.f)))) a.k a.f
