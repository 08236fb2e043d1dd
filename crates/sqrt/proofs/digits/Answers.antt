-- `sqrt::digits` meets its contract: each turn takes a digit and keeps `Taken`, and after 54 turns no digit is left. Assumes nothing.
use Rattle.sqrt.proofs.Steps.{start, no_digit, digit, finish, same}
use Rattle.sqrt.proofs.digits.Goals as goal
use Rattle.sqrt.proofs.digits.Goals.{then-q-rem, else-q-rem}

pub loop-init : goal.loop-init
loop-init c = start c.args.m c.requires

pub loop-preserved : goal.loop-preserved
loop-preserved c =
    let l = c.loop in
    let m = c.args.m in
    let t = c.loop-test.true in
    elim c.if-q-rem.branch [
      | then-q-rem v ↦ same m _ _ v.q-is v.rem-is (digit m l.w l.q l.rem l.counter l.invariant t v.if-q-rem.true)
      | else-q-rem v ↦ same m _ _ v.q-is v.rem-is (no_digit m l.w l.q l.rem l.counter l.invariant t v.if-q-rem.false)
    ]

pub returns : goal.returns
returns c = finish c.args.m c.loop.w c.loop.q c.loop.rem c.loop.counter c.loop.invariant c.loop-test.false
