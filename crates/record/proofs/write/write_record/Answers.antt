-- `record::write::write_record` meets its contract. A refusal returns before anything is put, and else the head is put and the body behind it.
-- Assumes nothing.
use mathlib.Core.Path.{◌≡◌, sym, ap, ◌∙◌}
use mathlib.Core.List.{List, ◌++◌}
use Prim.Native.Nat.{ℕ, ◌≤◌}
use native.Mathlib.Omega.{arith}
use lib.Seq.{sets}
use lib.ListN.{length}
use Rattle.std.proofs.Common.{rules, Err}
use Rattle.answer.specs.Numbers.{done}
use Rattle.answer.specs.declared.Answer.{Answer}
use Rattle.envelope.specs.Envelope.{body_of, body_start, following, kind_bytes, length_bytes}
use Rattle.envelope.specs.Little.{little}
use Rattle.envelope.proofs.Putting.{record_put}
use Rattle.fields.specs.Fields.{answer_size, fields_of}
use Rattle.recordable.specs.declared.Held.{Held}
use Rattle.record.specs.Record.{answer_held, write_number, written_in}
use Rattle.record.specs.Told.{written_told}
use Rattle.record.proofs.Cases.{says_refused, says_written, write_long, written_is}
use Rattle.record.proofs.Results.{not_done}
use Rattle.record.proofs.write.write_record.Goals as goal

-- the head and the body are the record
module _ (h : Held) (kind : ℕ) (out : List ℕ) (on : write_number h kind out ≡ done) where
  both-put : {k n m : ℕ} {a : Answer} {o last : List ℕ} → m ≡ kind → n ≡ m → k ≡ following (fields_of m) → a ≡ answer_held h →
      o ≡ sets out 0 (little length_bytes k ++ little kind_bytes n) → last ≡ sets o body_start (body_of (fields_of m) a) →
      last ≡ written_in h kind out
  both-put {n = n} {m = m} {o = o} is named size held headed bodied =
      record_put kind (fields_of kind) (answer_held h) out (write_long h kind out on)
      (headed
      ∙ ap (λ (k : ℕ). sets out 0 (little length_bytes k ++ little kind_bytes n)) (size ∙ ap (λ (j : ℕ). following (fields_of j)) is)
      ∙ ap (λ (j : ℕ). sets out 0 (little length_bytes (following (fields_of kind)) ++ little kind_bytes j)) (named ∙ is))
      (bodied
      ∙ ap (λ (x : Answer). sets o body_start (body_of (fields_of m) x)) held
      ∙ ap (λ (j : ℕ). sets o body_start (body_of (fields_of j) (answer_held h))) is)
      ∙ sym (written_is h kind out on)

  long_for : {m : ℕ} → m ≡ kind → answer_size m ≤ length out
  long_for is = omega (arith, write_long h kind out on, ap answer_size is)

pub returns-in_err-kind-clause-value : goal.returns-in_err-kind-clause-value
returns-in_err-kind-clause-value c =
    let a = c.args in
    let e = c.in_err-kind.field-0.0 in
    let same : c.from_residual.result ≡ Err e = search rules in
    ap written_told same ∙ (says_refused a.held a.kind a.out.now _ c.in_err-kind.ensures.number (not_done e)).0

pub returns-in_err-kind-clause-out_after : goal.returns-in_err-kind-clause-out_after
returns-in_err-kind-clause-out_after c =
    let a = c.args in
    (says_refused a.held a.kind a.out.now _ c.in_err-kind.ensures.number (not_done c.in_err-kind.field-0.0)).1

pub put_head-requires : goal.put_head-requires
put_head-requires c =
    let a = c.args in
    omega (arith, write_long a.held a.kind a.out.now (sym c.in_ok-kind.ensures.number))

pub put_answer-requires : goal.put_answer-requires
put_answer-requires c =
    let a = c.args in
    omega (arith, long_for a.held a.kind a.out.now (sym c.in_ok-kind.ensures.number) c.in_ok-kind.ensures.kind)

pub returns-clause-value : goal.returns-clause-value
returns-clause-value c =
    let a = c.args in
    rw (c.size.ensures, c.in_ok-kind.ensures.kind) (sym (says_written a.held a.kind a.out.now (sym c.in_ok-kind.ensures.number)))

pub returns-clause-out_after : goal.returns-clause-out_after
returns-clause-out_after c =
    let a = c.args in
    both-put a.held a.kind a.out.now (sym c.in_ok-kind.ensures.number)
    c.in_ok-kind.ensures.kind c.into.ensures c.following.ensures c.answer_of.ensures c.put_head.ensures c.put_answer.ensures
