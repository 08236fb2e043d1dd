-- `run::mcw_symbols` meets its contract. Before place i the windows' counts, latest places and candidates are those of the samples before it, so each
-- window tells its verdict on what comes, and the race is that over the places before i. Assumes nothing.
use Prim.Native.Nat.{◌<◌}
use mathlib.Core.Path.{◌≡◌, sym, ◌∙◌}
use Rattle.std.proofs.Common.{rules}
use native.Mathlib.Omega.{arith}
use Rattle.mcw_symbols.proofs.Keeping.{kept_starts, askable}
use Rattle.mcw_symbols.proofs.Scoring.{score_asks, scored_first, scored_last, scored_next}
use Rattle.mcw_symbols.proofs.Site.{site_of, site_marks, site_told, leave_asks, enter_asks, advance_asks, gone_on}
use Rattle.mcw_symbols.proofs.run.mcw_symbols.Goals as goal

pub loop-i-init : goal.loop-i-init
loop-i-init c =
    let none : c.default-c.result ≡ record { symbols = 0; keys = 0; bounds = 0 } = search rules in
    (rw none (kept_starts c.args.s.now c.args.k c.requires.some), scored_first c.args.s.now c.new-race.ensures)

pub spread-xs-requires : goal.spread-xs-requires
spread-xs-requires c = omega (arith, c.from-x.ensures, c.requires.below c.loop-i.i c.loop-i-test.true, c.requires.few)

pub ask-heard-requires : goal.ask-heard-requires
ask-heard-requires c =
    let x_below : c.from-x.result < c.args.k = omega (arith, c.from-x.ensures, c.requires.below c.loop-i.i c.loop-i-test.true) in
    askable c.requires c.loop-i.invariant.0 x_below c.spread-xs.ensures

pub tell-masks-requires : goal.tell-masks-requires
tell-masks-requires c =
    let site = site_of c.requires c.loop-i-test.true c.loop-i.invariant.0 c.from-x.ensures c.spread-xs.ensures c.taking-part.ensures c.ask-heard.ensures in
    (site_marks site, c.taking-part.ensures)

pub score-requires : goal.score-requires
score-requires c = score_asks c.args.s.now c.loop-i.i c.loop-i.invariant.1 (omega (arith, c.loop-i-test.true, c.requires.short))

pub leave_all-gone-requires : goal.leave_all-gone-requires
leave_all-gone-requires c =
    let site = site_of c.requires c.loop-i-test.true c.loop-i.invariant.0 c.from-x.ensures c.spread-xs.ensures c.taking-part.ensures c.ask-heard.ensures in
    leave_asks site

pub enter-key-requires : goal.enter-key-requires
enter-key-requires c =
    let site = site_of c.requires c.loop-i-test.true c.loop-i.invariant.0 c.from-x.ensures c.spread-xs.ensures c.taking-part.ensures c.ask-heard.ensures in
    enter_asks site c.leave_all-gone.ensures

pub advance-c-requires : goal.advance-c-requires
advance-c-requires c =
    let site = site_of c.requires c.loop-i-test.true c.loop-i.invariant.0 c.from-x.ensures c.spread-xs.ensures c.taking-part.ensures c.ask-heard.ensures in
    advance_asks site c.leave_all-gone.ensures c.enter-key.ensures

pub loop-i-preserved : goal.loop-i-preserved
loop-i-preserved c =
    let site = site_of c.requires c.loop-i-test.true c.loop-i.invariant.0 c.from-x.ensures c.spread-xs.ensures c.taking-part.ensures c.ask-heard.ensures in (
      gone_on site c.leave_all-gone.ensures c.enter-key.ensures c.advance-c.ensures,
      scored_next c.args.s.now c.loop-i.i c.loop-i.invariant.1 (site_told site c.tell-masks.ensures) c.score.ensures,
    )

pub returns : goal.returns
returns c = c.outcome.ensures ∙ scored_last c.args.s.now c.loop-i.i c.loop-i.invariant.1 (omega (arith, c.loop-i-test.false, c.loop-i.auto.i-end))
