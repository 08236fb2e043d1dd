-- `race::lead` meets its contract. After j guesses the scores and the winner are those of `scored` for the first j, and the bar is the winner's
-- score, and 1 at least;
-- a right guess claims its new score, so it reaches the bar just when its score is at least the winner's, and 0 never reaches it. Assumes nothing.
use Prim.Native.Nat.{◌<◌}
use mathlib.Core.Path.{◌≡◌, ◌∙◌}
use native.Mathlib.Omega.{arith}
use lib.ListN.{length}
use Rattle.race.specs.Inner.Held.{after, heard_from}
use Rattle.race.proofs.Standing.{scored_settled}
use Rattle.race.proofs.Held.{round_none, round_length, round-fits, round_passes, round_claims, round_wins, round_waits}
use Rattle.race.proofs.lead.Goals as goal
use Rattle.race.proofs.lead.Goals.{then-guesses-j, else-guesses-j, then-bar-claim, else-bar-claim}

pub loop-j-init : goal.loop-j-init
loop-j-init c = let a = c.args in round_none a.guesses.now a.scores.now a.leader.winner a.x a.leader.bar c.requires.bar_is

pub bounds-scores-j : goal.bounds-scores-j
bounds-scores-j c =
    let long : length c.loop-j.scores ≡ length c.args.guesses.now = round_length c.requires.ready c.loop-j.invariant in
    omega (arith, long)

pub overflow_add-points : goal.overflow_add-points
overflow_add-points c = omega (arith, round-fits c.requires.ready c.loop-j.invariant)

pub bounds-scores-j-in-loop-j : goal.bounds-scores-j-in-loop-j
bounds-scores-j-in-loop-j c =
    let long : length c.loop-j.scores ≡ length c.args.guesses.now = round_length c.requires.ready c.loop-j.invariant in
    omega (arith, long)

pub loop-j-preserved : goal.loop-j-preserved
loop-j-preserved c =
    let A = c.requires.ready in
    let Q = c.loop-j.invariant in
    let jl : c.loop-j.j < length c.args.guesses.now = omega arith in
    elim c.if-guesses-j.branch [
      | then-guesses-j v ↦ elim c.if-bar-claim.branch [
        | then-bar-claim u ↦ round_wins A Q jl v.if-guesses-j.true c.if-guesses-j.points v.points-is
            (omega (arith, v.points-is, v.claim-is, u.if-bar-claim.true)) c.if-bar-claim.winner c.if-bar-claim.bar u.winner-is
            (omega (arith, v.points-is, v.claim-is, u.bar-is))
        | else-bar-claim u ↦ round_waits A Q jl v.if-guesses-j.true c.if-guesses-j.points v.points-is
            (omega (arith, v.points-is, v.claim-is, u.if-bar-claim.false)) c.if-bar-claim.winner c.if-bar-claim.bar u.winner-is u.bar-is
      ]
      | else-guesses-j v ↦ elim c.if-bar-claim.branch [
        | then-bar-claim u ↦ absurd (round_claims A Q jl v.if-guesses-j.false (omega (arith, v.claim-is, u.if-bar-claim.true)))
        | else-bar-claim u ↦ round_passes A Q jl v.if-guesses-j.false c.if-guesses-j.points c.if-bar-claim.winner c.if-bar-claim.bar v.points-is
            u.winner-is u.bar-is
      ]
    ]

pub shape_of-scores : goal.shape_of-scores
shape_of-scores c =
    let long : length c.loop-j.scores ≡ length c.args.guesses.now = round_length c.requires.ready c.loop-j.invariant in
    omega (arith, long, c.requires.ready.lengths)

pub returns : goal.returns
returns c =
    let e : c.loop-j.j ≡ length c.args.guesses.now = omega (arith, c.loop-j.invariant.some) in
    let z = c.args in
    record {
      stands = rw e at c.loop-j.invariant.is ∙ scored_settled (heard_from z.guesses.now) z.x (after z.leader.winner z.scores.now) (length z.guesses.now);
      bar_is = c.loop-j.invariant.bar_is;
    }
