use Rattle.std.proofs.Common.{◌≡◌, ◌+◌, ◌<◌, ℕ, List, length, map, sym, ap, ap₂, ◌∙◌, subst, arith}
use Rattle.std.specs.Prelude.{All}
use Rattle.chart.specs.declared.instance.EventNo.{EventNo}
use Rattle.chart.specs.declared.line.TheConstants.{MAX_EVENTS}
use Rattle.chart.specs.Order.{AreLineRaces}
use Rattle.chart.specs.Reports.{ReportView}
use Rattle.line_recorder.specs.Recorders.{RecorderView, IsReportAbove}
use Rattle.line_recorder.specs.Kept.{IsOfLine}
use Rattle.line_recorder.proofs.KeptLemmas.{is_of_line}
use Rattle.line_recorder.proofs.recorder.Recorder.receive_above.Goals as goal

pub keep-requires-clause-line : goal.keep-requires-clause-line
keep-requires-clause-line c =
    let inside = c.self.inside in
    let line = inside.line.line in
    let report = c.new-report.result in
    let r : RecorderView = record { line = line; knowledge = inside.knowledge; reports = inside.reports.reports; room = inside.room } in
    let earlier = ap (λ (x : ReportView). x.earlier) c.new-report.ensures in
    let made : IsReportAbove r c.args.from c.args.region c.args.entry report = record {
      receive = ap (λ (x : ReportView). x.receive) c.new-report.ensures ∙ ap₂ (λ (p i : ℕ). record { instance = p; index = i + 1 }) c.instance.ensures c.len-2.ensures.value;
      races = subst (λ (es : List EventNo). AreLineRaces line.events c.args.entry c.args.from c.args.region (map (λ race. race.index) es)) (sym earlier) c.in_ok-earlier.ensures.races;
      own = subst (All (λ (race : EventNo). race.instance ≡ line.instance)) (sym earlier) c.in_ok-earlier.ensures.own;
    } in
    let short : length line.events < MAX_EVENTS = omega (arith, c.if-len-ge-MAX_EVENTS.false, c.len.ensures.value) in
    subst (λ (p : ℕ). IsOfLine p report) (sym (c.make_room.ensures.instance ∙ c.self.invariant.2)) (is_of_line r c.args.from c.args.region c.args.entry report made short)
