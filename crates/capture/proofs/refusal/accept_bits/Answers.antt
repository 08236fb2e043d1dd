-- `accept_bits` meets its contract. Past a source's own refusals its tests are those of the definition, in the same order. Assumes nothing.
use mathlib.Core.Path.{sym, ◌∙◌}
use native.Mathlib.Omega.{arith}
use Rattle.capture.proofs.Refusals.{told_few, told_short, told_wide, told_none}
use Rattle.capture.proofs.Sources.{counted}
use Rattle.capture.proofs.Widest.{wide_some, wide_none}
use Rattle.capture.proofs.refusal.accept_bits.Goals as goal

pub returns-then-len-least-clause-number : goal.returns-then-len-least-clause-number
returns-then-len-least-clause-number c =
    let many = counted c.args.symbols.now c.args.width c.len.ensures c.in_ok-source.ensures.bits in
    sym (told_few _ _ _ _ (sym c.in_ok-source.ensures.number) (omega (arith, many, c.if-len-least.true)))

pub returns-then-short-clause-number : goal.returns-then-short-clause-number
returns-then-short-clause-number c =
    let many = counted c.args.symbols.now c.args.width c.len.ensures c.in_ok-source.ensures.bits in
    sym (told_short _ _ _ _ (sym c.in_ok-source.ensures.number) (omega (arith, many, c.if-len-least.false)) c.if-short.true)

pub returns-in-Some-clause-number : goal.returns-in-Some-clause-number
returns-in-Some-clause-number c =
    let many = counted c.args.symbols.now c.args.width c.len.ensures c.in_ok-source.ensures.bits in
    sym
    (told_wide _ _ _ _ (sym c.in_ok-source.ensures.number) (omega (arith, many, c.if-len-least.false)) c.if-short.false
    (wide_some _ _ _ (sym c.too_wide_at.ensures ∙ c.in-Some.is)))

pub returns-clause-number : goal.returns-clause-number
returns-clause-number c =
    let many = counted c.args.symbols.now c.args.width c.len.ensures c.in_ok-source.ensures.bits in
    sym
    (told_none _ _ _ _ (sym c.in_ok-source.ensures.number) (omega (arith, many, c.if-len-least.false)) c.if-short.false
    (wide_none _ _ (sym c.too_wide_at.ensures ∙ c.in_default.is)))
