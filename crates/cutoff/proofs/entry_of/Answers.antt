-- `cutoff::entry_of` meets its contract: 64 times the entropy is exact, since the entropy is a double, and the cast drops its fraction. Assumes nothing.
use mathlib.Core.Path.{◌∙◌, sym, subst}
use lib.Dec.{T}
use lib.Ieee.{binary64, fits, of_bits}
use Rattle.cutoff.proofs.Entries.{product_over, product_under, whole_64ths}
use Rattle.cutoff.proofs.entry_of.Goals as goal

pub truncating_f64_to_u64-requires-clause-lower_bound : goal.truncating_f64_to_u64-requires-clause-lower_bound
unfolding of_bits
truncating_f64_to_u64-requires-clause-lower_bound c = product_over c.args.entropy (subst T (sym c.well_formed.0.1) tt) c.requires

pub truncating_f64_to_u64-requires-clause-upper_bound : goal.truncating_f64_to_u64-requires-clause-upper_bound
unfolding of_bits
truncating_f64_to_u64-requires-clause-upper_bound c = product_under c.args.entropy (subst T (sym c.well_formed.0.1) tt) c.requires

pub returns : goal.returns
unfolding of_bits
returns c =
    let held : T (fits binary64 c.args.entropy) = subst T (sym c.well_formed.0.1) tt in
    c.truncating_f64_to_u64.ensures ∙ whole_64ths c.args.entropy held c.requires
