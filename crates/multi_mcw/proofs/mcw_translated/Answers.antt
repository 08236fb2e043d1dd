-- `mcw_translated` meets its contract. Two values numbered from 0 are bits as they are. Assumes nothing.
use mathlib.Core.Path.{ap, ◌∙◌}
use native.Mathlib.Omega.{arith}
use Rattle.mcw_bits.specs.Mcw.{outcome_of}
use Rattle.capture.proofs.Sources.{all_narrow}
use Rattle.multi_mcw.proofs.mcw_translated.Goals as goal

pub new-requires : goal.new-requires
new-requires c = record { short = c.requires.0; some = omega arith; narrow = omega arith }

pub returns-then-k-le2 : goal.returns-then-k-le2
returns-then-k-le2 c =
    let s = c.args.s.now in
    c.mcw_bits.ensures ∙ ap outcome_of (c.new.ensures ∙ all_narrow s (λ i l. omega (arith, c.requires.1.below i l, c.if-k-le2.true)))
