-- `envelope::put_number` meets its contract. The bytes that are put and those of the rest are the whole, and at the end no rest is left. Assumes nothing.
use Prim.Native.Nat.{ℕ, suc, ◌+◌, ◌-◌, ◌/◌, ◌%◌, ◌≤◌, ◌<◌}
use Rattle.std.proofs.Common.{add-one}
use native.Mathlib.Omega.{arith}
use mathlib.Core.Path.{◌≡◌, sym, ap, ◌∙◌}
use mathlib.Core.List.{List, [], ◌∷◌, ◌++◌, append_assoc, append-nil}
use lib.ListN.{set, take, drop, length}
use borrow.Rule.Slice.PartMut.{put_mid}
use lib.Seq.{drop-drop, sets, sets-eq, take-suc-set, take_all}
use Rattle.envelope.specs.Little.{little}
use Rattle.envelope.proofs.Little.{little_length}
use Rattle.envelope.proofs.put_number.Goals as goal

pub loop-byte-init : goal.loop-byte-init
loop-byte-init c = let e : c.args.width - 0 ≡ c.args.width = omega arith in ap (λ (k : ℕ). little k c.args.number) e

stored : (items whole : List ℕ) (width rest i : ℕ) → i < length items → i < width → take i items ++ little (width - i) rest ≡ whole →
    take (i + 1) (set items i (rest % 256)) ++ little (width - (i + 1)) (rest / 256) ≡ whole
unfolding little
stored items whole width rest i h l e =
    let n : width - i ≡ suc (width - (i + 1)) = omega arith in
    let one : take (i + 1) (set items i (rest % 256)) ≡ take i items ++ (rest % 256 ∷ []) = rw add-one (take-suc-set items i (rest % 256) h) in
    rw (one, append_assoc) (ap (λ (k : ℕ). take i items ++ little k rest) (sym n) ∙ e)

pub loop-byte-preserved : goal.loop-byte-preserved
loop-byte-preserved c = stored _ _ _ _ _ (omega arith) (omega arith) c.loop-byte.invariant

-- at the end the items are the whole, and they stand in the slice where they were lent from
ended : (out items : List ℕ) (at width rest number i k : ℕ) → length items ≡ width → length items ≤ i → at + width ≤ length out → k ≡ width →
    take i items ++ little (width - i) rest ≡ little width number → put_mid at k out items ≡ sets out at (little width number)
unfolding little
ended out items at width rest number i k long h fits e w =
    let none : width - i ≡ 0 = omega arith in
    let all : items ≡ little width number =
    sym (append-nil items) ∙ ap (λ (l : List ℕ). l ++ []) (sym (take_all i items h)) ∙ ap (λ (n : ℕ). take i items ++ little n rest) (sym none) ∙ w in
    let room : at + length (little width number) ≤ length out = omega (arith, little_length width number) in
    rw all (ap (λ (l : List ℕ). take at out ++ (little width number ++ l))
    (drop-drop k at out ∙ ap (λ (n : ℕ). drop (at + n) out) (e ∙ sym (little_length width number)))
    ∙ sym (append_assoc (take at out) (little width number) _)
    ∙ sym (sets-eq (little width number) out at room))

pub returns : goal.returns
returns c = ended _ _ _ _ _ _ _ _ (omega arith) (omega arith) (omega arith) (omega arith) c.loop-byte.invariant
