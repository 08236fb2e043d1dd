-- `entropy::entropy_units` meets its contract: it is the definition's two cases, with the doublings and the logarithm from the callees. There are
-- eight doublings at most, and the
-- logarithm has 24 digits, so nothing overflows. Assumes nothing.
use mathlib.Core.Path.{◌≡◌, sym, ap, ◌∙◌, subst}
use mathlib.Core.Bool.{true, false}
use Prim.Native.Nat.{ℕ, ◌+◌, ◌-◌, ◌*◌}
use native.Mathlib.Omega.{arith}
use lib.Ieee.{Float, of_bits, eq}
use Rattle.rounding.specs.Doubles.{one}
use Rattle.entropy.specs.Entropy.{units, whole_bits, leading, log_digits, entropy_units}
use Rattle.entropy.proofs.Rounds.{doublings_few, digits_below}
use Rattle.entropy.proofs.Cases.{units_at_power, units_between}
use Rattle.entropy.proofs.entropy_units.Goals as goal

-- ---- the cases, at whatever the callees returned
at-power : (p x : Float) (j : ℕ) → (x ≡ leading p) × (j ≡ whole_bits p) → eq x one ≡ true → j * 16777216 ≡ entropy_units p
unfolding units
at-power p x j d e = ap (λ (n : ℕ). n * 16777216) d.1 ∙ sym (units_at_power p (subst (λ (z : Float). eq z one ≡ true) d.0 e))

taken-off : (p x : Float) (j l : ℕ) → (x ≡ leading p) × (j ≡ whole_bits p) → l ≡ log_digits 24 x → eq x one ≡ false → j * 16777216 - (l + 2) ≡ entropy_units p
unfolding units
taken-off p x j l d g e =
    ap (λ (n : ℕ). n * 16777216 - (l + 2)) d.1 ∙ ap (λ (n : ℕ). whole_bits p * 16777216 - (n + 2)) (g ∙ ap (log_digits 24) d.0)
    ∙ sym (units_between p (subst (λ (z : Float). eq z one ≡ false) d.0 e))

pub overflow_mul-whole : goal.overflow_mul-whole
overflow_mul-whole c = let d = c.doubled-s in omega (arith, d.ensures.1, doublings_few 8 c.args.p)

pub returns-then-s : goal.returns-then-s
unfolding of_bits
returns-then-s c = let d = c.doubled-s in at-power c.args.p d.result.x d.result.j d.ensures c.if-s.true

pub overflow_add-log_units : goal.overflow_add-log_units
overflow_add-log_units c = omega (arith, c.log_units.ensures, digits_below 24 c.doubled-s.result.x)

pub returns : goal.returns
unfolding of_bits
returns c =
    let d = c.doubled-s in
    let l = c.log_units in
    c.saturating_sub.ensures ∙ taken-off c.args.p d.result.x d.result.j l.result d.ensures l.ensures c.if-s.false
