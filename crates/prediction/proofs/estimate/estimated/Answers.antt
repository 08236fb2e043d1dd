-- `prediction::estimate::estimated` meets its contract. Each field is what its function ensures, and the entropy is never refused. Assumes nothing.
use mathlib.Core.Path.{ap, ◌∙◌}
use lib.Ieee.{Float, of_bits, neg}
use Rattle.answer.specs.declared.Value.{Value}
use Rattle.entropy.specs.MinEntropy.{min_entropy_of}
use Rattle.prediction.specs.Estimate.{estimate, estimated_of}
use Rattle.prediction.proofs.EstimateRanges.{global_range, entropy_answers}
use Rattle.answer.proofs.Results.{is_refusal}
use Rattle.prediction.proofs.Estimating.{rounds_are, local_is, largest_is}
use Rattle.prediction.proofs.estimate.estimated.Goals as goal

pub global_bound-p_global_prime-requires : goal.global_bound-p_global_prime-requires
global_bound-p_global_prime-requires c =
    let p = c.args.counted.possible in
    rw c.hit_rate-p_global.ensures (global_range _ _ p.hits p.few).to

pub returns-in_err-min_entropy : goal.returns-in_err-min_entropy
unfolding of_bits neg
returns-in_err-min_entropy c =
    let x = c.args.counted in
    let local = local_is c.floor_of-floor.result c.runs.ensures.0 c.runs.ensures.1 c.local.ensures c.unwrap_or-solution.ensures in
    let l = largest_is x.c x.n x.longest x.k c.hit_rate-p_global.ensures c.global_bound-p_global_prime.ensures c.floor_of-floor.ensures local c.larger_of.ensures in
    absurd (is_refusal c.in_err-min_entropy.field-0.0
    (ap (λ (v : Value). v.number) c.in_err-min_entropy.ensures ∙ ap (λ (p : Float). (min_entropy_of p).number) l
    ∙ entropy_answers x.c x.n x.longest x.k x.possible))

pub returns : goal.returns
unfolding estimated_of estimate of_bits neg
returns c =
    let x = c.args.counted in
    let floor = c.floor_of-floor.result in
    let rounds = rounds_are floor c.runs.ensures.0 c.runs.ensures.1 c.local.ensures c.unwrap_or-solution.ensures in
    let local = local_is floor c.runs.ensures.0 c.runs.ensures.1 c.local.ensures c.unwrap_or-solution.ensures in
    let l = largest_is x.c x.n x.longest x.k c.hit_rate-p_global.ensures c.global_bound-p_global_prime.ensures c.floor_of-floor.ensures local c.larger_of.ensures in
    let figure = ap (λ (v : Value). v.value) c.in_ok-min_entropy.ensures in
    rw (figure, l, rounds, local, c.floor_of-floor.ensures, c.global_bound-p_global_prime.ensures, c.hit_rate-p_global.ensures)
