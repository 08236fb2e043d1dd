-- `advance::advance` meets its contract. Each step is that of the lanes: the leaver is taken from the candidate, the one that comes leads where its key
-- is as large, and the loser's count raises the bound. Assumes nothing.
use mathlib.Core.Path.{◌≡◌}
use Prim.Native.Nat.{ℕ, ◌<◌}
use lib.Dec.{eqb}
use Rattle.lanes.specs.Inner.Lanes.{lane}
use Rattle.mcw_symbols.specs.Inner.Advance.{spent}
use Rattle.mcw_symbols.proofs.Advancing.{zero_low, alike_marks, losable, spent_low, leads_marks, picked_low, lost_low, loser_low, advanced}
use Rattle.mcw_symbols.proofs.advance.advance.Goals as goal

pub lose-m-requires : goal.lose-m-requires
lose-m-requires c = losable c.requires c.same.result c.same.ensures

pub at_least-leads-requires : goal.at_least-leads-requires
at_least-leads-requires c =
    -- the keys once samples have left
    let left : (let z = c.args in (j : ℕ) → j < 4 → lane c.lose-m.result j ≡ spent (lane z.gone j) (lane z.c.symbols j) (lane z.c.keys j)) = λ j l.
    let z = c.args in
    c.lose-m.ensures j l (eqb (lane z.gone j) (lane z.c.symbols j)) (c.same.ensures j l) in
    (c.requires.key_low, spent_low c.requires c.lose-m.result left)

pub pick-requires : goal.pick-requires
pick-requires c =
    -- the keys once samples have left
    let left : (let z = c.args in (j : ℕ) → j < 4 → lane c.lose-m.result j ≡ spent (lane z.gone j) (lane z.c.symbols j) (lane z.c.keys j)) = λ j l.
    let z = c.args in
    c.lose-m.ensures j l (eqb (lane z.gone j) (lane z.c.symbols j)) (c.same.ensures j l) in
    let A = c.requires in
    (leads_marks A c.lose-m.result left c.at_least-leads.result c.at_least-leads.ensures, (spent_low A c.lose-m.result left, A.key_low))

pub even-requires : goal.even-requires
even-requires c =
    -- the keys once samples have left
    let left : (let z = c.args in (j : ℕ) → j < 4 → lane c.lose-m.result j ≡ spent (lane z.gone j) (lane z.c.symbols j) (lane z.c.keys j)) = λ j l.
    let z = c.args in
    c.lose-m.ensures j l (eqb (lane z.gone j) (lane z.c.symbols j)) (c.same.ensures j l) in
    picked_low c.requires c.lose-m.result left c.at_least-leads.result c.at_least-leads.ensures c.pick.result c.pick.ensures

pub pick-loser-requires : goal.pick-loser-requires
pick-loser-requires c =
    -- the keys once samples have left
    let left : (let z = c.args in (j : ℕ) → j < 4 → lane c.lose-m.result j ≡ spent (lane z.gone j) (lane z.c.symbols j) (lane z.c.keys j)) = λ j l.
    let z = c.args in
    c.lose-m.ensures j l (eqb (lane z.gone j) (lane z.c.symbols j)) (c.same.ensures j l) in
    let A = c.requires in (
      alike_marks A,
      (zero_low, lost_low A c.lose-m.result left c.at_least-leads.result c.at_least-leads.ensures c.pick.result c.even.result c.pick.ensures c.even.ensures),
    )

pub pick-requires-2 : goal.pick-requires-2
pick-requires-2 c =
    -- the keys once samples have left
    let left : (let z = c.args in (j : ℕ) → j < 4 → lane c.lose-m.result j ≡ spent (lane z.gone j) (lane z.c.symbols j) (lane z.c.keys j)) = λ j l.
    let z = c.args in
    c.lose-m.ensures j l (eqb (lane z.gone j) (lane z.c.symbols j)) (c.same.ensures j l) in
    let A = c.requires in
    (leads_marks A c.lose-m.result left c.at_least-leads.result c.at_least-leads.ensures, (A.x_low, A.low.symbols_low))

pub pick-requires-3 : goal.pick-requires-3
pick-requires-3 c =
    -- the keys once samples have left
    let left : (let z = c.args in (j : ℕ) → j < 4 → lane c.lose-m.result j ≡ spent (lane z.gone j) (lane z.c.symbols j) (lane z.c.keys j)) = λ j l.
    let z = c.args in
    c.lose-m.ensures j l (eqb (lane z.gone j) (lane z.c.symbols j)) (c.same.ensures j l) in
    let A = c.requires in
    (leads_marks A c.lose-m.result left c.at_least-leads.result c.at_least-leads.ensures, (A.key_low, spent_low A c.lose-m.result left))

pub larger-requires : goal.larger-requires
larger-requires c =
    -- the keys once samples have left
    let left : (let z = c.args in (j : ℕ) → j < 4 → lane c.lose-m.result j ≡ spent (lane z.gone j) (lane z.c.symbols j) (lane z.c.keys j)) = λ j l.
    let z = c.args in
    c.lose-m.ensures j l (eqb (lane z.gone j) (lane z.c.symbols j)) (c.same.ensures j l) in
    let A = c.requires in (
      loser_low A c.lose-m.result left c.at_least-leads.result c.at_least-leads.ensures c.pick.result c.even.result c.pick.ensures c.even.ensures
          c.pick-loser.result c.pick-loser.ensures,
      A.low.bounds-low,
    )

pub returns : goal.returns
returns c =
    -- the keys once samples have left
    let left : (let z = c.args in (j : ℕ) → j < 4 → lane c.lose-m.result j ≡ spent (lane z.gone j) (lane z.c.symbols j) (lane z.c.keys j)) = λ j l.
    let z = c.args in
    c.lose-m.ensures j l (eqb (lane z.gone j) (lane z.c.symbols j)) (c.same.ensures j l) in
    let A = c.requires in
    advanced A c.lose-m.result left c.at_least-leads.result c.at_least-leads.ensures c.pick.result c.even.result c.pick.ensures c.even.ensures
    c.pick-loser.result c.pick-loser.ensures c.pick-2.ensures c.pick-3.ensures c.larger.ensures
