-- `report_line::text_of` meets its contract: each piece stands behind the one before. Assumes nothing.
use Rattle.std.proofs.Common.{◌≡◌, ◌∙◌, ap, List, ℕ, ◌++◌}
use Rattle.report_line.specs.Line.{number}
use Rattle.report_line.proofs.Lines.{line_is}
use Rattle.report_line.proofs.text_of.Goals as goal

pub returns : goal.returns
returns c =
    let a = c.args.a in
    let first : c.push_number.new.text.items ≡ number a.number = c.push_number.ensures.items ∙ ap (λ (l : List ℕ). l ++ number a.number) c.new-text.ensures in
    cc (line_is a)
