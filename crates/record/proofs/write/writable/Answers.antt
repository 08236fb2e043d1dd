-- `record::write::writable` meets its contract. The three tests are made in the definition's order. Assumes nothing.
use mathlib.Core.Path.{◌≡◌, refl, sym, ap, ◌∙◌}
use native.Mathlib.Omega.{arith}
use borrow.Author.Tests.{le-ltb, lt-ltb}
use lib.ListN.{length}
use Rattle.std.proofs.Common.{rules, Err}
use Rattle.answer.specs.Results.{number_in, number_of}
use Rattle.fields.specs.Fields.{answer_size}
use Rattle.record.proofs.Cases.{write_by_lem}
use Rattle.record.proofs.Results.{may_write, size_asked}
use Rattle.record.proofs.write.writable.Goals as goal

pub returns-then-out-size-clause-number : goal.returns-then-out-size-clause-number
returns-then-out-size-clause-number c =
    let a = c.args in
    let size = size_asked c.try_from-asked.result a.kind c.try_from-asked.ensures c.unwrap_or.ensures c.size.ensures in
    sym (write_by_lem a.held a.kind a.out.now (lt-ltb (length a.out.now) (answer_size a.kind) (omega (arith, size))) refl refl)

pub returns-in_err-kind-clause-number : goal.returns-in_err-kind-clause-number
returns-in_err-kind-clause-number c =
    let a = c.args in
    let size = size_asked c.try_from-asked.result a.kind c.try_from-asked.ensures c.unwrap_or.ensures c.size.ensures in
    let room = le-ltb (length a.out.now) (answer_size a.kind) (omega (arith, size)) in
    let e = c.in_err-kind.field-0.0 in
    let same : c.from_residual.result ≡ Err e = search rules in
    ap number_in same ∙ ap number_of c.in_err-kind.ensures.0 ∙ sym (write_by_lem a.held a.kind a.out.now room c.in_err-kind.ensures.1 refl)

pub returns-then-is_holdable-clause-number : goal.returns-then-is_holdable-clause-number
returns-then-is_holdable-clause-number c =
    let a = c.args in
    let size = size_asked c.try_from-asked.result a.kind c.try_from-asked.ensures c.unwrap_or.ensures c.size.ensures in
    let room = le-ltb (length a.out.now) (answer_size a.kind) (omega (arith, size)) in
    let may = may_write a.held a.kind c.in_ok-kind.kind c.in_ok-kind.ensures c.tells_winner.ensures c.is_holdable.ensures c.if-is_holdable.true in
    sym (write_by_lem a.held a.kind a.out.now room may.0 may.1)

pub returns-else-is_holdable-clause-number : goal.returns-else-is_holdable-clause-number
returns-else-is_holdable-clause-number c =
    let a = c.args in
    let size = size_asked c.try_from-asked.result a.kind c.try_from-asked.ensures c.unwrap_or.ensures c.size.ensures in
    let room = le-ltb (length a.out.now) (answer_size a.kind) (omega (arith, size)) in
    let may = may_write a.held a.kind c.in_ok-kind.kind c.in_ok-kind.ensures c.tells_winner.ensures c.is_holdable.ensures c.if-is_holdable.false in
    sym (write_by_lem a.held a.kind a.out.now room may.0 may.1)
