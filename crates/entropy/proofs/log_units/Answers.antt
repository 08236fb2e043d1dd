-- `entropy::log_units` meets its contract. The loop runs the definition's squarings one by one (`Squaring`); the digits stay below 2 ^ i, so none is
-- lost. Assumes nothing.
use mathlib.Core.Path.{◌≡◌, subst}
use Prim.Native.Nat.{ℕ, ◌+◌, ◌*◌, ◌<◌}
use native.Mathlib.Omega.{arith}
use lib.Ieee.{Float, binary64, mul, of_bits}
use Rattle.rounding.specs.Doubles.{half}
use Rattle.entropy.specs.Entropy.{log_digits}
use Rattle.entropy.proofs.Rounds.{Squaring, squaring_first, squaring_high, squaring_low, squaring_room}
use Rattle.entropy.proofs.log_units.Goals as goal
use Rattle.entropy.proofs.log_units.Goals.{then-x, else-x}

pub loop-init : goal.loop-init
loop-init c = squaring_first c.args.start

pub overflow_mul-bits : goal.overflow_mul-bits
overflow_mul-bits c = let l = c.loop in omega (arith, squaring_room c.args.start l.x l.bits l.counter l.invariant (omega arith))

pub overflow_add-bits : goal.overflow_add-bits
overflow_add-bits c = let l = c.loop in omega (arith, squaring_room c.args.start l.x l.bits l.counter l.invariant (omega arith))

pub loop-preserved : goal.loop-preserved
unfolding of_bits
loop-preserved c =
    let s = c.args.start in
    let l = c.loop in
    let t : l.counter < 24 = omega arith in
    elim c.if-x.branch [
      | then-x v ↦ at s c.if-x.x (mul binary64 (mul binary64 l.x l.x) half) c.if-x.bits (l.bits * 2 + 1) (l.counter + 1) v.x-is v.bits-is
          (squaring_high s l.x l.bits l.counter l.invariant t v.if-x.true)
      | else-x v ↦ at s c.if-x.x (mul binary64 l.x l.x) c.if-x.bits (l.bits * 2) (l.counter + 1) v.x-is v.bits-is
          (squaring_low s l.x l.bits l.counter l.invariant t v.if-x.false)
    ]
  where
    -- at whatever equals the new values
    at : (start x x' : Float) (b b' i : ℕ) → x ≡ x' → b ≡ b' → Squaring start x' b' i → Squaring start x b i
    at start x x' b b' i e g t = rw (e, g) t

pub returns : goal.returns
returns c =
    let l = c.loop in
    let e : l.counter ≡ 24 = omega arith in
    subst (λ (n : ℕ). l.bits ≡ log_digits n c.args.start) e l.invariant.digits
