-- `capture::bits::bit` meets its contract. Each return is one case of `bit_read`, in the order 1, 7, 2, 3, and then the bit. Assumes nothing.
use mathlib.Core.Path.{sym, ◌∙◌, ap}
use Prim.Native.Nat.{ℕ, ◌*◌, ◌<◌}
use mathlib.Core.List.{List}
use native.Mathlib.Omega.{arith}
use lib.ListN.{length, get_or}
use Rattle.capture.proofs.Sources.{all_at, counted}
use Rattle.capture.proofs.Reading.{at_one, bit_done, read_past_end, read_too_wide, read_done}
use Rattle.capture.proofs.bits.bit.Goals as goal

pub returns-then-len-place : goal.returns-then-len-place
returns-then-len-place c =
    let many = counted c.args.symbols.now c.args.width c.len.ensures c.in_ok-source.ensures.bits in
    sym (read_past_end _ _ _ (sym c.in_ok-source.ensures.number) (omega (arith, many, c.if-len-place.true)))

pub is_wide-requires : goal.is_wide-requires
is_wide-requires c = λ e.
    let many = counted c.args.symbols.now c.args.width c.len.ensures c.in_ok-source.ensures.bits in
    at_one e (omega (arith, many, c.if-len-place.false))

pub returns-then-is_wide : goal.returns-then-is_wide
returns-then-is_wide c =
    let many = counted c.args.symbols.now c.args.width c.len.ensures c.in_ok-source.ensures.bits in
    sym
    (read_too_wide _ _ _ (sym c.in_ok-source.ensures.number) (omega (arith, many, c.if-len-place.false))
    (sym c.is_wide.ensures ∙ c.if-is_wide.true))

pub returns : goal.returns
returns c =
    let many = counted c.args.symbols.now c.args.width c.len.ensures c.in_ok-source.ensures.bits in
    let inside : c.args.i < length c.args.symbols.now * c.args.width = omega (arith, many, c.if-len-place.false) in
    bit_done (c.bit.ensures ∙ ap (λ (t : List ℕ). get_or t c.args.i 0) c.in_ok-source.ensures.bits ∙ all_at _ _ _ inside)
    ∙ sym (read_done _ _ _ (sym c.in_ok-source.ensures.number) inside (sym c.is_wide.ensures ∙ c.if-is_wide.false))
