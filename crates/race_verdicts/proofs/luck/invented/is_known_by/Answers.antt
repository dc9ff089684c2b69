use Rattle.std.proofs.Common.{get_or, ◌≡◌, ◌+◌, ◌∙◌, suc, sym, subst, List, None, Some}
use Rattle.chart.specs.declared.event.Event.{Event}
use Rattle.chart.specs.Charts.{at, LineView, chart_lines}
use Rattle.closure.specs.Searches.{IsSend, IsReached}
use Rattle.race_verdicts.specs.Luck.Invention.{IsSendAt}
use Rattle.race_verdicts.specs.Luck.Tables.{IsLast}
use Rattle.race_verdicts.proofs.LuckLemmas.InventionLemmas.{known_none, known_last, known_reached, events_of}
use Rattle.race_verdicts.proofs.luck.invented.is_known_by.Goals as goal

pub returns-in_default : goal.returns-in_default
returns-in_default c =
    let lines = c.args.closure.now in
    let events : c.events.result.now ≡ chart_lines lines (suc c.args.place) =
    events_of lines c.args.place c.index-lines-place.result c.events.result.now c.requires.place c.events.ensures.value
    (subst (λ (l : List LineView). c.index-lines-place.result ≡ get_or l c.args.place c.index-lines-place.result) c.lines.ensures c.index-lines-place.is) in
    known_none (chart_lines lines) c.args.invented.now (suc c.args.place) c.args.count (subst (λ (l : List Event). IsLast (IsSendAt l) (c.args.count + 1) None) events c.in_default.ensures)

pub up_to-requires : goal.up_to-requires
up_to-requires c =
    let lines = c.args.closure.now in
    let events : c.events.result.now ≡ chart_lines lines (suc c.args.place) =
    events_of lines c.args.place c.index-lines-place.result c.events.result.now c.requires.place c.events.ensures.value
    (subst (λ (l : List LineView). c.index-lines-place.result ≡ get_or l c.args.place c.index-lines-place.result) c.lines.ensures c.index-lines-place.is) in
    let send : IsSend (chart_lines lines) (at (suc c.args.place) c.in-Some.index) = (subst (λ (l : List Event). IsLast (IsSendAt l) (c.args.count + 1) (Some c.in-Some.index)) events c.in-Some.ensures).1 in
    subst (λ p. IsSend (chart_lines lines) (at p c.in-Some.index)) (sym c.at_place.ensures) send

pub returns : goal.returns
returns c =
    let lines = c.args.closure.now in
    let events : c.events.result.now ≡ chart_lines lines (suc c.args.place) =
    events_of lines c.args.place c.index-lines-place.result c.events.result.now c.requires.place c.events.ensures.value
    (subst (λ (l : List LineView). c.index-lines-place.result ≡ get_or l c.args.place c.index-lines-place.result) c.lines.ensures c.index-lines-place.is) in
    let last = subst (λ (l : List Event). IsLast (IsSendAt l) (c.args.count + 1) (Some c.in-Some.index)) events c.in-Some.ensures in
    let reached : IsReached (chart_lines lines) (at (suc c.args.place) c.in-Some.index) c.in_ok-fronts.fronts =
    subst (λ p. IsReached (chart_lines lines) (at p c.in-Some.index) c.in_ok-fronts.fronts) c.at_place.ensures c.in_ok-fronts.ensures.reached in
    let both =
    known_reached (chart_lines lines) c.args.invented.now (suc c.args.place) c.in-Some.index last.1 c.requires.numbered c.in_ok-fronts.fronts (c.in_ok-fronts.ensures.whole ∙ sym c.requires.whole) reached in
    let has = c.has_invented.ensures in
    known_last (chart_lines lines) c.args.invented.now (suc c.args.place) c.args.count c.in-Some.index c.has_invented.result last (λ yes. both.1 (has.0 yes), λ known. has.1 (both.0 known))
