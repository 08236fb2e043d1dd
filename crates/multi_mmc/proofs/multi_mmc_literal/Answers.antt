-- `multi_mmc::multi_mmc_literal` meets its contract. It is refused by the number of `literal_refusal`; else the race is over the rising numbers, which are
-- bits where there are at most two. Assumes nothing.
use Rattle.answer.specs.Results.{number_of}
use Rattle.capture.specs.Refusals.{symbols_refusal}
use mathlib.Core.Path.{◌≡◌, refl, ap, ◌∙◌}
use mathlib.Core.List.{List}
use Prim.Native.Nat.{ℕ, ◌≤◌, ◌<◌}
use native.Mathlib.Omega.{arith}
use lib.ListN.{length}
use Rattle.alphabet.specs.Alphabet.{distinct, sorted}
use Rattle.alphabet.proofs.Alphabets.{Bytes}
use Rattle.mmc_bits.specs.Levels.{cap, levels}
use Rattle.mmc_bits.specs.Space.{final}
use Rattle.multi_mmc.specs.Tracks.{bits_estimate, least_samples, literal_number, store_estimate}
use Rattle.answer.proofs.Results.{rated_refused}
use Rattle.multi_mmc.proofs.LiteralAnswers.{accepted, literal_refused, literal_taken, translated, many_needed, many_ran, two_needed, two_ran}
use Rattle.multi_mmc.proofs.Translated.{bits_are, bits_many, size_is, source_is, taken_is, taken_length, written_is}
use Rattle.multi_mmc.proofs.multi_mmc_literal.Goals as goal

pub returns-in_err-accept_symbols : goal.returns-in_err-accept_symbols
unfolding literal_number
returns-in_err-accept_symbols c =
    let e = c.in_err-accept_symbols.field-0.0 in
    let number : number_of e ≡ literal_number c.args.symbols.now c.args.out.now c.args.space.now =
    c.in_err-accept_symbols.ensures ∙ c.is_short.ensures in
    let l = literal_refused c.args.symbols.now c.args.out.now c.args.space.now refl e number in
    (rated_refused c.from_residual.result e c.from_residual.ensures ∙ l.0, l.1, l.2)

pub slice_bounds-samples-end : goal.slice_bounds-samples-end
slice_bounds-samples-end c =
    let ran = literal_taken _ _ _ (accepted c.args.symbols.now c.args.out.now c.args.space.now _ c.is_short.ensures c.in_ok-accept_symbols.ensures) refl in
    omega (arith, ran.room)

pub slice_bounds-samples-end-2 : goal.slice_bounds-samples-end-2
slice_bounds-samples-end-2 c =
    let translation = translated _ _ _ (accepted c.args.symbols.now c.args.out.now c.args.space.now _ c.is_short.ensures c.in_ok-accept_symbols.ensures) refl (c.from-alphabet.ensures ∙ c.value_sorted_alphabet-found.ensures.0) c.value_sorted_alphabet-found.ensures.1 in
    taken_length translation

pub new-requires : goal.new-requires
new-requires c =
    let translation = translated _ _ _ (accepted c.args.symbols.now c.args.out.now c.args.space.now _ c.is_short.ensures c.in_ok-accept_symbols.ensures) refl (c.from-alphabet.ensures ∙ c.value_sorted_alphabet-found.ensures.0) c.value_sorted_alphabet-found.ensures.1 in
    source_is translation

pub bits_estimate-requires : goal.bits_estimate-requires
bits_estimate-requires c =
    let bytes : Bytes c.args.symbols.now = λ i l. omega (arith, c.type_inv.symbols i) in
    let ran = literal_taken _ _ _ (accepted c.args.symbols.now c.args.out.now c.args.space.now _ c.is_short.ensures c.in_ok-accept_symbols.ensures) refl in
    let translation = translated _ _ _ (accepted c.args.symbols.now c.args.out.now c.args.space.now _ c.is_short.ensures c.in_ok-accept_symbols.ensures) refl (c.from-alphabet.ensures ∙ c.value_sorted_alphabet-found.ensures.0) c.value_sorted_alphabet-found.ensures.1 in
    let few : distinct c.args.symbols.now ≤ 2 = omega (arith, size_is translation, c.if-binary.true) in
    (omega (arith, ran.many, ap length c.new.ensures, bits_many translation bytes few), rw (two_needed c.args.symbols.now few) at ran.work)

pub returns-then-binary : goal.returns-then-binary
returns-then-binary c =
    let bytes : Bytes c.args.symbols.now = λ i l. omega (arith, c.type_inv.symbols i) in
    let translation = translated _ _ _ (accepted c.args.symbols.now c.args.out.now c.args.space.now _ c.is_short.ensures c.in_ok-accept_symbols.ensures) refl (c.from-alphabet.ensures ∙ c.value_sorted_alphabet-found.ensures.0) c.value_sorted_alphabet-found.ensures.1 in
    let few : distinct c.args.symbols.now ≤ 2 = omega (arith, size_is translation, c.if-binary.true) in
    let bits = c.new.ensures ∙ bits_are translation bytes few in
    two_ran c.args.symbols.now c.args.out.now c.args.space.now (accepted c.args.symbols.now c.args.out.now c.args.space.now _ c.is_short.ensures c.in_ok-accept_symbols.ensures) refl (written_is translation) few
    (c.bits_estimate.ensures.value ∙ ap bits_estimate bits)
    (c.bits_estimate.ensures.counters_after ∙ ap (λ (b : List ℕ). final levels cap b c.args.space.now) bits)

pub store_estimate-requires : goal.store_estimate-requires
store_estimate-requires c =
    let ran = literal_taken _ _ _ (accepted c.args.symbols.now c.args.out.now c.args.space.now _ c.is_short.ensures c.in_ok-accept_symbols.ensures) refl in
    let translation = translated _ _ _ (accepted c.args.symbols.now c.args.out.now c.args.space.now _ c.is_short.ensures c.in_ok-accept_symbols.ensures) refl (c.from-alphabet.ensures ∙ c.value_sorted_alphabet-found.ensures.0) c.value_sorted_alphabet-found.ensures.1 in
    let more : 2 < distinct c.args.symbols.now = omega (arith, size_is translation, c.if-binary.false) in
    let t = ran in
    let l = taken_length translation in
    (rw l at t.many, rw l at t.fits, rw (many_needed c.args.symbols.now more) at t.work)

pub returns : goal.returns
returns c =
    let translation = translated _ _ _ (accepted c.args.symbols.now c.args.out.now c.args.space.now _ c.is_short.ensures c.in_ok-accept_symbols.ensures) refl (c.from-alphabet.ensures ∙ c.value_sorted_alphabet-found.ensures.0) c.value_sorted_alphabet-found.ensures.1 in
    let more : 2 < distinct c.args.symbols.now = omega (arith, size_is translation, c.if-binary.false) in
    many_ran c.args.symbols.now c.args.out.now c.args.space.now (accepted c.args.symbols.now c.args.out.now c.args.space.now _ c.is_short.ensures c.in_ok-accept_symbols.ensures) refl (written_is translation) more
    (c.store_estimate.ensures.value
    ∙ ap (λ (s : List ℕ). store_estimate s c.from-alphabet.result.size) (taken_is translation)
    ∙ ap (store_estimate (sorted c.args.symbols.now)) (size_is translation))
    c.store_estimate.ensures.space_after
