-- `multi_mmc::multi_mmc` meets its contract. It is refused by the number of `bits_refusal`, and else the race is over the capture's bits.
-- Assumes nothing.
use mathlib.Core.Path.{refl, sym, ap, ◌∙◌}
use mathlib.Core.List.{List}
use Prim.Native.Nat.{ℕ}
use native.Mathlib.Omega.{arith}
use borrow.Author.Tests.{ltb-false}
use lib.Dec.{ltb}
use lib.ListN.{length}
use Rattle.answer.proofs.Results.{is_refusal, rated_refused}
use Rattle.capture.specs.Bits.{all_bits}
use Rattle.capture.proofs.Refusals.{taken}
use Rattle.capture.proofs.Sources.{all_length}
use Rattle.mmc_bits.specs.Levels.{cap, levels}
use Rattle.mmc_bits.specs.Space.{size, final}
use Rattle.multi_mmc.specs.Tracks.{bits_estimate, bits_number, least_samples}
use Rattle.multi_mmc.proofs.BitsAnswers.{bits_refused, bits_ran}
use Rattle.multi_mmc.proofs.multi_mmc.Goals as goal

pub returns-in_err-source : goal.returns-in_err-source
unfolding bits_number size
returns-in_err-source c =
    let a = c.args in
    let e = c.in_err-source.field-0.0 in
    let l = bits_refused a.symbols.now a.bits_per_symbol a.counters.now c.in_err-source.ensures.number (is_refusal e) c.in_err-source.ensures.found in
    (rated_refused c.from_residual.result e c.from_residual.ensures ∙ l.0, l.1)

pub bits_estimate-requires : goal.bits_estimate-requires
unfolding bits_number size
bits_estimate-requires c =
    let a = c.args in
    let ran = taken a.symbols.now a.bits_per_symbol least_samples (ltb (length a.counters.now) (size levels)) (sym c.in_ok-source.ensures.number) in
    (omega (arith, ran.many, ap length c.in_ok-source.ensures.found, all_length a.symbols.now a.bits_per_symbol), ltb-false _ _ ran.room)

pub returns : goal.returns
unfolding bits_number size all_bits
returns c =
    let a = c.args in
    let bits = c.in_ok-source.ensures.found in
    bits_ran a.symbols.now a.bits_per_symbol a.counters.now c.in_ok-source.ensures.number refl
    (c.bits_estimate.ensures.value ∙ ap bits_estimate bits)
    (c.bits_estimate.ensures.counters_after ∙ ap (λ (b : List ℕ). final levels cap b a.counters.now) bits)
