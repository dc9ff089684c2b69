use Rattle.std.proofs.Common.{◌≡◌, List, [], ◌∷◌, ◌++◌, sym, ap, ap₂, ◌∙◌, subst, subst₂, arith, eqb-true, vec_len}
use Rattle.chart.specs.declared.instance.EventNo.{EventNo}
use Rattle.chart.specs.Reports.{ReportView}
use Rattle.races_text.specs.Judged.LogVerdicts.{verdict_in}
use Rattle.cmd_mend.specs.Luck.{AreLucky, AddsReport}
use Rattle.std.proofs.lemmas.Bool.{eqb-false}
use Rattle.std.proofs.lemmas.List.{nil_from_length}
use Rattle.cmd_mend.proofs.LuckLemmas.{report_luck, report_without}
use Rattle.cmd_mend.proofs.logs.add_report.Goals as goal

pub returns-then-is_empty : goal.returns-then-is_empty
returns-then-is_empty c =
    let report = c.args.report.now in
    let is = verdict_in c.args.judge.now.lines c.args.judge.now.recording in
    let events = c.in_ok-events.events.items in
    let lucky = subst₂ (λ (r : EventNo) (es : List EventNo). AreLucky (is r) es events) c.receive-receive.ensures (c.as_slice.ensures.value ∙ c.in_ok-earlier.ensures.events ∙ c.earlier.ensures) c.in_ok-events.ensures in
    let zero = eqb-true (vec_len c.in_ok-events.events) 0 (sym c.is_empty.ensures ∙ c.if-is_empty.true) in
    report_without is report c.args.lucky.now.items (subst (λ (l : List EventNo). AreLucky (is report.receive) report.earlier l) (nil_from_length events (omega (arith, zero, c.in_ok-events.events.ok.0))) lucky)

pub returns : goal.returns
returns c =
    let report = c.args.report.now in
    let is = verdict_in c.args.judge.now.lines c.args.judge.now.recording in
    let events = c.in_ok-events.events.items in
    let old = c.args.lucky.now.items in
    let lucky = subst₂ (λ (r : EventNo) (es : List EventNo). AreLucky (is r) es events) c.receive-receive.ensures (c.as_slice.ensures.value ∙ c.in_ok-earlier.ensures.events ∙ c.earlier.ensures) c.in_ok-events.ensures in
    let some = eqb-false (vec_len c.in_ok-events.events) 0 (sym c.is_empty.ensures ∙ c.if-is_empty.false) in
    let made : EventNo → List EventNo → ReportView = λ r es. record { receive = r; earlier = es } in
    let luck : c.in_ok-luck.luck ≡ made report.receive events = c.in_ok-luck.ensures.value ∙ ap₂ (λ (r : EventNo) (es : List EventNo). made r es) c.receive-receive.ensures c.as_slice-2.ensures.value in
    subst (λ (l : List ReportView). AddsReport is report old l) (sym (c.in_ok-push.ensures.items ∙ ap (λ (x : ReportView). old ++ x ∷ []) luck))
    (report_luck is report events old lucky (omega (arith, some, c.in_ok-events.events.ok.0)))
