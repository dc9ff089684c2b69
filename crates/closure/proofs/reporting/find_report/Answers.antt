use Rattle.std.proofs.Common.{◌≡◌, suc, List, map, take, All, ap, ◌∙◌, subst, add-one}
use Rattle.chart.specs.declared.event.Event.{Event}
use Rattle.chart.specs.Charts.{at, LineView, chart_lines}
use Rattle.chart.specs.Order.{AreLineRaces}
use Rattle.chart.specs.Ranges.{events_in}
use Rattle.closure.proofs.KnowLemmas.{known_entry}
use Rattle.closure.proofs.ReportLemmas.{IsReportIn-from_races}
use Rattle.closure.proofs.reporting.find_report.Goals as goal

pub returns-clause-report : goal.returns-clause-report
returns-clause-report c =
    let lines = c.args.linked.now in
    let receive = c.args.receive.now in
    let sent = c.requires.receive.2 in
    let r = at (suc receive.line) (suc receive.place) in
    let known = known_entry lines c.args.known.now c.requires.known receive.sender receive.index r c.value_at-entry.result sent.0 sent.1 c.value_at-entry.ensures in
    let s = at (suc receive.sender) receive.index in
    let found = events_in c.find_races.new.found.items in
    let xs = map (λ e. e.index) found in
    let in_line = subst (λ (line : List Event). AreLineRaces (take receive.place line) c.value_at-entry.result c.at_place.result c.region-region.result xs) (ap (λ (l : LineView). l.events) c.as_growing.ensures ∙ c.line_of.ensures.events) c.find_races.ensures.races in
    let races = subst (λ q. AreLineRaces (take receive.place (chart_lines lines (suc receive.line))) c.value_at-entry.result q c.region-region.result xs) c.at_place.ensures in_line in
    let own = subst (λ p. All (λ e. e.instance ≡ p) found) (ap (λ (l : LineView). l.instance) c.as_growing.ensures ∙ c.line_of.ensures.number) c.find_races.ensures.own in
    rw c.at_place-2.ensures (
      (suc receive.sender, sent.1.received),
      ap (λ i. record { instance = suc receive.line; index = i }) (add-one receive.place),
      IsReportIn-from_races (chart_lines lines) s (suc receive.line) receive.place c.value_at-entry.result c.region-region.result c.event_at.result found sent.1 c.event_at.ensures c.region-region.ensures known races own,
    )
