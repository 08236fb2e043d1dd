-- `Race::step` meets its contract. The counts go by the winner's verdict; where nobody was right all else stays, and else the claims choose the winner
-- and what goes through the planes, whether or not something is left over for the numbers above. Assumes nothing.
use mathlib.Core.Path.{ap}
use native.Mathlib.Omega.{arith}
use Rattle.verdicts.specs.Inner.Racing.{raced_in}
use Rattle.verdicts.proofs.Choosing.{chosen_le}
use Rattle.verdicts.proofs.Passing.{passes_within, passes_shiftable, passes_over}
use Rattle.verdicts.proofs.Signs.{whole}
use Rattle.verdicts.proofs.Stepping.{score_fits, passable, seen_quiet, seen_next, holds_next}
use Rattle.verdicts.proofs.place.Race.step.Goals as goal

pub returns-then-rights-eq0 : goal.returns-then-rights-eq0
returns-then-rights-eq0 g c =
    seen_quiet c.self.invariant c.args.masks (ap (raced_in g.row.M) c.self.view_is) c.count_masks-self-inside.ensures c.if-rights-eq0.true

pub overflow_add-self : goal.overflow_add-self
overflow_add-self g c =
    omega (arith, score_fits c.self.invariant c.args.masks (ap (raced_in g.row.M) c.self.view_is) c.requires.room, chosen_le c.choose-choice.ensures)

pub shift-requires : goal.shift-requires
shift-requires g c =
    let ready = passable c.self.invariant c.args.masks (ap (raced_in g.row.M) c.self.view_is) c.requires.room c.requires.narrow (whole g.row.M c.self.invariant.few) in
    let fits = passes_shiftable ready c.claim-claimed.ensures c.choose-choice.ensures c.top_bit-self-inside.ensures c.ripple-carry.ensures
    c.ripple-carry.array_long in
    (omega (arith, c.self.invariant.few), fits)

pub invariant_of-self-then-carry-ne0 : goal.invariant_of-self-then-carry-ne0
invariant_of-self-then-carry-ne0 g c =
    let ready = passable c.self.invariant c.args.masks (ap (raced_in g.row.M) c.self.view_is) c.requires.room c.requires.narrow (whole g.row.M c.self.invariant.few) in
    holds_next c.self.invariant c.args.masks
    (passes_over ready c.claim-claimed.ensures c.choose-choice.ensures c.top_bit-self-inside.ensures c.ripple-carry.ensures c.shift.ensures
    c.mask_of-self-inside.ensures)

pub invariant_of-self-else-carry-ne0 : goal.invariant_of-self-else-carry-ne0
invariant_of-self-else-carry-ne0 g c =
    let ready = passable c.self.invariant c.args.masks (ap (raced_in g.row.M) c.self.view_is) c.requires.room c.requires.narrow (whole g.row.M c.self.invariant.few) in
    holds_next c.self.invariant c.args.masks
    (passes_within ready c.claim-claimed.ensures c.choose-choice.ensures c.top_bit-self-inside.ensures c.ripple-carry.ensures c.if-carry-ne0.false)

pub returns-then-carry-ne0 : goal.returns-then-carry-ne0
returns-then-carry-ne0 g c =
    let ready = passable c.self.invariant c.args.masks (ap (raced_in g.row.M) c.self.view_is) c.requires.room c.requires.narrow (whole g.row.M c.self.invariant.few) in
    seen_next c.self.invariant c.args.masks
    (passes_over ready c.claim-claimed.ensures c.choose-choice.ensures c.top_bit-self-inside.ensures c.ripple-carry.ensures c.shift.ensures
    c.mask_of-self-inside.ensures)
    (ap (raced_in g.row.M) c.self.view_is) c.count_masks-self-inside.ensures

pub returns-else-carry-ne0 : goal.returns-else-carry-ne0
returns-else-carry-ne0 g c =
    let ready = passable c.self.invariant c.args.masks (ap (raced_in g.row.M) c.self.view_is) c.requires.room c.requires.narrow (whole g.row.M c.self.invariant.few) in
    seen_next c.self.invariant c.args.masks
    (passes_within ready c.claim-claimed.ensures c.choose-choice.ensures c.top_bit-self-inside.ensures c.ripple-carry.ensures c.if-carry-ne0.false)
    (ap (raced_in g.row.M) c.self.view_is) c.count_masks-self-inside.ensures
