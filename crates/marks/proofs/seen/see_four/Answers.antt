-- `marks::seen::see_four` meets its contract. Where the marks add up to four, all of them stand already. Assumes nothing.
use Rattle.std.proofs.Common.{rules}
use Rattle.marks.proofs.Seeing.{sees_four}
use Rattle.marks.proofs.seen.see_four.Goals as goal

pub returns-else-a-b-lt4 : goal.returns-else-a-b-lt4
returns-else-a-b-lt4 c =
    sees_four c.args.seen.now c.args.four.now c.map.result (search rules) (λ i k. search rules) c.if-a-b-lt4.false
