-- The marks of the windows that take part. Assumes nothing.
use mathlib.Core.Path.{◌≡◌, sym, ap, ◌∙◌}
use mathlib.Core.Bool.{Bool}
use Prim.Native.Nat.{ℕ, ◌<◌}
use lib.Dec.{leb}
use Rattle.lanes.specs.Inner.Lanes.{lane, marked}
use Rattle.lanes.proofs.Words.{each_lane}
use Rattle.mcw_bits.specs.Mcw.{size}

-- lane by lane
pub marks_four : (w i : ℕ) (a b c d : Bool) → lane w 0 ≡ marked a → lane w 1 ≡ marked b → lane w 2 ≡ marked c → lane w 3 ≡ marked d
    → leb (size 0) i ≡ a → leb (size 1) i ≡ b → leb (size 2) i ≡ c → leb (size 3) i ≡ d → (j : ℕ) → j < 4 → lane w j ≡ marked (leb (size j) i)
marks_four w i a b c d p q r s p' q' r' s' =
    each_lane (λ (j : ℕ). lane w j ≡ marked (leb (size j) i))
    (p ∙ ap marked (sym p')) (q ∙ ap marked (sym q')) (r ∙ ap marked (sym r')) (s ∙ ap marked (sym s'))
