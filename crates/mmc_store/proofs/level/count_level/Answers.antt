-- The pair is the word that the context and the symbol make: found, or made where it is missing and can be. Where it cannot, the level is at its
-- cap, and nothing is counted; else the level's rules say whether it is. Assumes nothing.
use Prim.Native.Nat.{ℕ, suc, ◌+◌, ◌*◌, ◌≤◌, ◌<◌}
use mathlib.Core.Path.{refl}
use native.Mathlib.Omega.{arith}
use mir.Val.{Fits}
use mir.Syntax.{w64}
use Rattle.table.specs.Inner.Table.{room, key_limit}
use Rattle.mmc_bits.specs.Levels.{levels, cap}
use Rattle.mmc_store.specs.Inner.Places.{tables_most}
use Rattle.mmc_store.proofs.Counting.{pair_table, key_fits, not_looked, looked, count_ready, tally_ready, through_none, through_left, through_taken}
use Rattle.mmc_store.proofs.level.count_level.Goals as goal

-- the numbers of the store: entries and their levels fit the tables, and each fits a word
caps : cap + suc levels ≤ room
caps = omega arith

table-next : (l : ℕ) → l < levels → (l + 1 < tables_most) × Fits w64 (l + 1)
table-next l h = (omega arith, omega arith)

fits-key : (c x : ℕ) → c * 256 + x < key_limit → Fits w64 (c * 256) × Fits w64 (c * 256 + x)
fits-key c x h = (omega arith, omega arith)

pub make_in-p-requires : goal.make_in-p-requires
make_in-p-requires g c =
    let ready = c.requires in ((table-next _ ready.one).0, pair_table caps ready, key_fits caps ready)

pub returns-then-p-eq0 : goal.returns-then-p-eq0
returns-then-p-eq0 g c = let ready = c.requires in through_none caps ready (looked caps ready (λ z. omega arith) c.make_in-p.ensures.changed c.make_in-p.ensures.value) c.if-p-eq0.true

pub value_in-n-requires : goal.value_in-n-requires
value_in-n-requires g c =
    let ready = c.requires in
    let r = count_ready caps ready (looked caps ready (λ z. omega arith) c.make_in-p.ensures.changed c.make_in-p.ensures.value) in
    (r.1, r.2, r.3)

pub returns-then-not-takes : goal.returns-then-not-takes
returns-then-not-takes g c = let ready = c.requires in through_left caps ready (looked caps ready (λ z. omega arith) c.make_in-p.ensures.changed c.make_in-p.ensures.value)
    c.value_in-n.ensures.0 c.takes.ensures c.if-not-takes.true

pub tally-requires : goal.tally-requires
tally-requires g c =
    let ready = c.requires in
    let r = tally_ready caps ready (looked caps ready (λ z. omega arith) c.make_in-p.ensures.changed c.make_in-p.ensures.value)
    c.value_in-n.ensures.0 in
    (r.1, r.2, r.3, r.4, r.5)

pub returns : goal.returns
returns g c = let ready = c.requires in through_taken caps ready (looked caps ready (λ z. omega arith) c.make_in-p.ensures.changed c.make_in-p.ensures.value)
    c.value_in-n.ensures.0 c.if-p-eq0.false c.tally.ensures c.takes.ensures
    c.if-not-takes.false

pub overflow_mul-c : goal.overflow_mul-c
overflow_mul-c g c = (fits-key _ _ (key_fits caps c.requires)).0

pub overflow_add-c : goal.overflow_add-c
overflow_add-c g c = (fits-key _ _ (key_fits caps c.requires)).1

pub returns-then-carry-eq0 : goal.returns-then-carry-eq0
returns-then-carry-eq0 g c = let ready = c.requires in through_none caps ready (not_looked caps ready c.if-carry-eq0.true) refl
