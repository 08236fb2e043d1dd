-- `Race::lead` meets its contract. After j guesses the scores and the winner are those of `scored` for the first j; a right guess claims its new
-- score, so it reaches the bar just when its score is at least the winner's, and 0 never reaches it. Assumes nothing.
use Prim.Native.Nat.{◌<◌}
use mathlib.Core.Path.{◌≡◌, refl, ap, ◌∙◌}
use native.Mathlib.Omega.{arith}
use lib.ListN.{length, get_or}
use Rattle.race.specs.Inner.Held.{after}
use Rattle.race.specs.Inner.Raced.{Raced, heard_from}
use Rattle.race.proofs.Standing.{scored_settled}
use Rattle.race.proofs.Leading.{led_none, led_score, led_winner, led_passes, led_claims, led_wins, led_waits}
use Rattle.race.proofs.Race.lead.Goals as goal
use Rattle.race.proofs.Race.lead.Goals.{then-eq, else-eq, then-bar-claim, else-bar-claim}

pub loop-j-init : goal.loop-j-init
loop-j-init g c = (led_none _ _ _ _ _ c.self.invariant.1, refl)

pub overflow_add-points : goal.overflow_add-points
overflow_add-points g c =
    let same : get_or c.self.inside.scores c.loop-j.j 0 ≡ get_or c.args.self.now.standing.scores c.loop-j.j 0 =
    ap (λ (r : Raced). get_or r.standing.scores c.loop-j.j 0) c.self.view_is in
    omega (arith, led_score c.loop-j.invariant.0, c.requires.scores_fit c.loop-j.j)

pub loop-j-preserved : goal.loop-j-preserved
loop-j-preserved g c =
    let Q = c.loop-j.invariant.0 in
    let here : c.loop-j.j < length c.self.inside.scores = omega arith in (
      elim c.if-eq.branch [
        | then-eq v ↦ elim c.if-bar-claim.branch [
          | then-bar-claim u ↦ led_wins Q here v.if-eq.ensures v.points-is (omega (arith, v.points-is, v.claim-is, u.if-bar-claim.true)) u.winner-is
              (omega (arith, v.points-is, v.claim-is, u.bar-is))
          | else-bar-claim u ↦ led_waits Q here v.if-eq.ensures v.points-is (omega (arith, v.points-is, v.claim-is, u.if-bar-claim.false))
              u.winner-is u.bar-is
        ]
        | else-eq v ↦ elim c.if-bar-claim.branch [
          | then-bar-claim u ↦ absurd (led_claims Q v.if-eq.ensures (omega (arith, v.claim-is, u.if-bar-claim.true)))
          | else-bar-claim u ↦ led_passes Q v.if-eq.ensures v.points-is u.winner-is u.bar-is
        ]
      ],
      c.loop-j.invariant.1,
    )

pub invariant_of-self : goal.invariant_of-self
invariant_of-self g c =
    let within = led_winner c.loop-j.invariant.0 (omega (arith, c.self.invariant.0)) (omega arith) in
    (omega (arith, within), c.loop-j.invariant.0.bar_is)

pub returns : goal.returns
returns g c =
    let gs = c.args.guesses.now in
    let all : c.loop-j.j ≡ length gs = omega arith in
    let st = after c.self.inside.winner c.self.inside.scores in
    let stands = rw all at c.loop-j.invariant.0.is ∙ scored_settled (heard_from gs) c.args.x st (length gs) in
    rw (← c.self.view_is, stands, c.loop-j.invariant.1) refl
