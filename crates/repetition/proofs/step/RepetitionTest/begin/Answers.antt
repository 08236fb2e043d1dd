-- `RepetitionTest::begin` meets its contract, by whether the cutoff was found. Assumes nothing.
use Rattle.std.proofs.Common.{◌≡◌, rules, ap, ◌∙◌, Err}
use Rattle.answer.specs.Results.{number_in}
use Rattle.repetition.proofs.Starting.{refused, taken}
use Rattle.repetition.proofs.step.RepetitionTest.begin.Goals as goal

pub returns-in_err-cutoff : goal.returns-in_err-cutoff
returns-in_err-cutoff c =
    let e = c.in_err-cutoff.field-0.0 in
    let said = refused c.args.self.now c.args.entropy e c.in_err-cutoff.ensures in
    let same : c.from_residual.result ≡ Err e = search rules in
    record { number = ap number_in same ∙ said.0; state = said.1 }

pub returns : goal.returns
returns c =
    let said = taken c.args.self.now c.args.entropy c.in_ok-cutoff.cutoff c.in_ok-cutoff.ensures in
    record { number = said.0; state = said.1 }
