use Rattle.std.proofs.Common.{◌≡◌, ◌+◌, ◌++◌, ◌∷◌, [], List, length, length-append, map, drop, ap, ◌∙◌, arith}
use Rattle.chart.specs.Reports.{ReportView}
use Rattle.line_recorder.specs.Kept.{KeptView, range_of, reports_of}
use Rattle.line_recorder.proofs.KeptLemmas.{no_receives, refused, begun_with, listed_next}
use Rattle.line_recorder.proofs.kept_reports.KeptReports.add_to.Goals as goal

pub returns-in_err-reserve-clause-none : goal.returns-in_err-reserve-clause-none
returns-in_err-reserve-clause-none c = λ none.
    let p = c.self.inside.instance in
    let there : length c.self.inside.receives.items ≡ 0 = no_receives p _ (map (range_of p) c.self.inside.ranges.items) (ap (λ (v : KeptView). v.reports) c.self.view_is ∙ none) in
    absurd (omega (arith, there, c.len.ensures, c.reserve.ensures.succeeds, c.in_err-reserve.ensures.full))

pub returns-in_err-ranges_of-clause-none : goal.returns-in_err-ranges_of-clause-none
returns-in_err-ranges_of-clause-none c = λ none.
    let p = c.self.inside.instance in
    let there : length c.self.inside.receives.items ≡ 0 = no_receives p _ (map (range_of p) c.self.inside.ranges.items) (ap (λ (v : KeptView). v.reports) c.self.view_is ∙ none) in
    absurd (omega (arith, there, c.loop-receive-test.true, ap length c.as_slice-receives.ensures.value))

pub returns-in_err-ranges_of-clause-err : goal.returns-in_err-ranges_of-clause-err
returns-in_err-ranges_of-clause-err c =
    let inv = c.loop-receive.invariant in
    refused c.from_residual-in_err-ranges_of.result _ (c.loop-receive.receive-index, begun_with c.loop-receive.reports.items _ c.args.reports.now.items c.args.self.now.reports c.loop-receive.receive-index inv.added inv.many)

pub loop-receive-preserved : goal.loop-receive-preserved
loop-receive-preserved c =
    let inv = c.loop-receive.invariant in
    let p = c.args.self.now.instance in
    let q = c.self.inside.instance in
    let receives = c.as_slice-receives.result.now in
    let pushed : c.push_reserved.new.self.items ≡ c.loop-receive.reports.items ++ c.new.result ∷ [] = c.push_reserved.ensures.items in
    let instance : q ≡ p = ap (λ (v : KeptView). v.instance) c.self.view_is in
    let next = listed_next p q receives c.loop-receive.receive-index _ c.loop-receive.left.now c.split_at.result.0.now c.split_at.result.1.now c.loop-receive.reports.items (c.args.reports.now.items ++ c.args.self.now.reports) c.in_ok-ranges_of.field-0 c.new.result instance c.loop-receive-test.true inv.left inv.added c.split_at.ensures.front c.split_at.ensures.back c.in_ok-ranges_of.ensures c.new.ensures in
    record {
      many = omega (arith, inv.many, ap length pushed, length-append c.loop-receive.reports.items (c.new.result ∷ []));
      room = omega (arith, inv.room, c.push_reserved.ensures.len, c.push_reserved.ensures.capacity, c.loop-receive-test.true);
      left = next.0;
      added = ap (λ (rs : List ReportView). rs ++ reports_of p (drop (c.loop-receive.receive-index + 1) receives) (map (range_of p) c.split_at.result.1.now)) pushed ∙ next.1;
    }
