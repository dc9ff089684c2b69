use Rattle.std.proofs.Common.{◌≡◌, ◌++◌, ◌∷◌, [], List, length, length-append, map, sym, ap, ap₂, ◌∙◌, refl, subst, arith}
use Rattle.std.specs.Prelude.{All}
use Rattle.std.proofs.lemmas.List.{length-map}
use Rattle.std.proofs.lemmas.List.Elements.{All-append}
use Rattle.chart.specs.declared.instance.EventNo.{EventNo}
use Rattle.chart.specs.Ranges.{IsRange, events_in}
use Rattle.chart.specs.Reports.{ReportView}
use Rattle.line_recorder.specs.declared.kept_reports.KeptReceive.{KeptReceive}
use Rattle.line_recorder.specs.Kept.{KeptView, range_of, reports_of, ranges_in, IsOnLine, IsOfLine}
use Rattle.line_recorder.proofs.KeptLemmas.{reports_push, ranges_in-push, report_is, on_line, few_ranges}
use Rattle.line_recorder.proofs.kept_reports.KeptReports.keep.Goals as goal

pub add_ranges-requires-clause-on_line : goal.add_ranges-requires-clause-on_line
add_ranges-requires-clause-on_line c =
    let p = c.self.inside.instance in
    let ranges = c.as_slice-ranges.result.now in
    let report = c.args.report.now in
    let line : IsOfLine p report = subst (λ (v : KeptView). IsOfLine v.instance report) (sym c.self.view_is) c.requires.line in
    let events : events_in ranges ≡ report.earlier = c.as_slice-ranges.ensures.events ∙ c.earlier.ensures in
    (p, on_line p ranges report c.as_slice-ranges.ensures.each events line)

pub overflow_cast-ranges : goal.overflow_cast-ranges
overflow_cast-ranges c =
    let ranges = c.as_slice-ranges.result.now in
    let few = few_ranges ranges c.as_slice-ranges.ensures.each in
    let events : events_in ranges ≡ c.args.report.now.earlier = c.as_slice-ranges.ensures.events ∙ c.earlier.ensures in
    omega (arith, few, ap length events, c.requires.line.few)

pub invariant_of-self : goal.invariant_of-self
invariant_of-self c =
    let p = c.self.inside.instance in
    let ranges = c.as_slice-ranges.result.now in
    let report = c.args.report.now in
    let line : IsOfLine p report = subst (λ (v : KeptView). IsOfLine v.instance report) (sym c.self.view_is) c.requires.line in
    let events : events_in ranges ≡ report.earlier = c.as_slice-ranges.ensures.events ∙ c.earlier.ensures in
    let each : All (IsOnLine p) ranges = on_line p ranges report c.as_slice-ranges.ensures.each events line in
    let old = c.self.inside.ranges.items in
    let new = c.add_ranges.new.kept.items in
    let kept : KeptReceive = record { index = c.receive.result.index; ranges = length ranges } in
    let added : map (range_of p) new ≡ map (range_of p) old ++ ranges = c.add_ranges.ensures p each in
    let received : c.push_reserved.new.self.items ≡ c.self.inside.receives.items ++ kept ∷ [] = c.push_reserved.ensures.items in
    record {
      as_many = omega (
        arith,
        ap length added,
        length-map new (range_of p),
        length-map old (range_of p),
        length-append (map (range_of p) old) ranges,
        c.self.invariant.as_many,
        ap ranges_in received,
        ranges_in-push c.self.inside.receives.items kept,
      );
      each = subst (All IsRange) (sym added) (All-append IsRange (map (range_of p) old) ranges c.self.invariant.each c.as_slice-ranges.ensures.each);
    }

pub returns-clause-reports : goal.returns-clause-reports
returns-clause-reports c =
    let p = c.self.inside.instance in
    let ranges = c.as_slice-ranges.result.now in
    let report = c.args.report.now in
    let line : IsOfLine p report = subst (λ (v : KeptView). IsOfLine v.instance report) (sym c.self.view_is) c.requires.line in
    let events : events_in ranges ≡ report.earlier = c.as_slice-ranges.ensures.events ∙ c.earlier.ensures in
    let each : All (IsOnLine p) ranges = on_line p ranges report c.as_slice-ranges.ensures.each events line in
    let old = c.self.inside.ranges.items in
    let receives = c.self.inside.receives.items in
    let kept : KeptReceive = record { index = c.receive.result.index; ranges = length ranges } in
    let added : map (range_of p) c.add_ranges.new.kept.items ≡ map (range_of p) old ++ ranges = c.add_ranges.ensures p each in
    let received : c.push_reserved.new.self.items ≡ receives ++ kept ∷ [] = c.push_reserved.ensures.items in
    ap₂ (reports_of p) received added ∙ reports_push p receives (map (range_of p) old) kept ranges (length-map old (range_of p) ∙ c.self.invariant.as_many)
    ∙ ap₂ (λ (rs : List ReportView) (r : ReportView). rs ++ r ∷ []) (ap (λ (v : KeptView). v.reports) c.self.view_is)
    (report_is p kept ranges report refl (ap (λ (e : EventNo). e.index) c.receive.ensures) line.instance events)
