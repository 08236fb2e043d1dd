-- `claim` meets its contract, digit by digit. Assumes nothing.
use mathlib.Core.Path.{◌≡◌, refl, sym, ap, ◌∙◌}
use mathlib.Core.List.{List, [], ◌∷◌}
use Prim.Native.Nat.{ℕ, ◌≤◌}
use native.Mathlib.Omega.{arith}
use native.Mathlib.Numerals.{add-one}
use lib.ListN.{length, get_or, take, drop}
use lib.Seq.{take_all}
use Rattle.verdicts.specs.Inner.Planes.{Claims}
use Rattle.verdicts.proofs.Claiming.{ors, ors_step, ors_end, without, claimed}
use Rattle.verdicts.proofs.planes.claim.Goals as goal

pub loop-plane-preserved : goal.loop-plane-preserved
loop-plane-preserved c =
    let l = c.loop-plane in
    rw add-one (sym (ors_step l.high _ l.plane-index c.loop-plane-test.true) ∙ l.invariant)

-- at the end all planes but the first are in
whole : (planes items : List ℕ) (far rights high i : ℕ) → length planes ≡ 6 → items ≡ take 5 (drop 1 planes) → length items ≤ i →
    ors high (drop i items) ≡ ors far items →
    Claims planes far rights (record { first = without (without rights high) (get_or planes 0 0); near = without rights high })
whole [] items far rights high i six e h w = absurd (omega arith)
whole (p ∷ ps) items far rights high i six e h w =
    let same : items ≡ ps = e ∙ take_all 5 ps (omega arith) in
    let all : high ≡ ors far ps = sym (ors_end high items i h) ∙ w ∙ ap (ors far) same in
    rw all (claimed p ps far rights)

pub returns : goal.returns
returns c = whole c.args.planes.now _ c.args.far c.args.rights c.loop-plane.high c.loop-plane.plane-index c.told-planes refl c.loop-plane-test.false c.loop-plane.invariant
