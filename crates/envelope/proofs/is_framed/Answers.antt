-- `envelope::is_framed` meets its contract. The end of the input is tested first, so that the two fields that it reads stand in the slice. Assumes nothing.
use mathlib.Core.Path.{◌≡◌, sym, ap, ◌∙◌}
use mathlib.Core.Bool.{false}
use native.Mathlib.Omega.{arith}
use Prim.Native.Nat.{ℕ, ◌+◌, ◌≤◌}
use mathlib.Core.List.{List}
use lib.Dec.{eqb}
use lib.ListN.{length}
use borrow.Author.Tests.{eqb-true, eq-eqb, le-leb, leb-true}
use Rattle.envelope.specs.Envelope.{framed}
use Rattle.envelope.specs.Little.{number_at}
use Rattle.envelope.proofs.Envelope.{framed_short}
use Rattle.envelope.proofs.is_framed.Goals as goal
use Rattle.envelope.proofs.is_framed.Goals.{then-whole, else-whole}

module _ (kind behind : ℕ) (bytes : List ℕ) (whole : 4 + behind ≤ length bytes) where
  -- all but the kind is right
  by_kind : {n : ℕ} → number_at bytes 0 4 ≡ behind → n ≡ number_at bytes 4 2 → eqb n kind ≡ framed kind behind bytes
  unfolding framed
  by_kind e k = simp (le-leb (4 + behind) (length bytes) whole, eq-eqb (number_at bytes 0 4) behind e) (ap (λ (m : ℕ). eqb m kind) k)

  another_length : eqb (number_at bytes 0 4) behind ≡ false → framed kind behind bytes ≡ false
  unfolding framed
  another_length e = simp (le-leb (4 + behind) (length bytes) whole, e)

pub returns-then-number_at-following : goal.returns-then-number_at-following
returns-then-number_at-following c =
    let a = c.args in
    elim c.if-whole.branch [
      | then-whole w ↦
          let long = eqb-true _ _ (sym w.value-is ∙ c.if-number_at-following.true) in
          by_kind a.kind a.following a.bytes.now (omega arith) (sym w.number_at.ensures ∙ long) c.number_at-then-number_at-following.ensures
      | else-whole w ↦ absurd (omega (arith, leb-true _ _ (sym w.value-is ∙ c.if-number_at-following.true)))
    ]

pub returns-else-number_at-following : goal.returns-else-number_at-following
returns-else-number_at-following c =
    let a = c.args in
    c.if-number_at-following.false
    ∙ elim c.if-whole.branch [
      | then-whole w ↦
          let not_long = ap (λ (n : ℕ). eqb n a.following) (sym w.number_at.ensures) ∙ sym w.value-is ∙ c.if-number_at-following.false in
          sym (another_length a.kind a.following a.bytes.now (omega arith) not_long)
      | else-whole w ↦ sym (framed_short a.kind a.following a.bytes.now (omega arith))
    ]
