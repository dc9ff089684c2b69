-- Races that were luck, one by one; and that each is of events of the chart.
use Rattle.std.proofs.Common.{◌≡◌, ◌≢◌, ◌<◌, true, false, List, [], ◌∷◌, ◌++◌, length, All, arith, refl, sym, ◌∙◌, subst}
use Rattle.std.proofs.lemmas.Bool.{false≢true}
use Rattle.std.proofs.lemmas.List.Elements.{All-nil, All-cons, All-head, All-tail, All-weaker}
use Rattle.chart.specs.declared.instance.EventNo.{EventNo}
use Rattle.chart.specs.Charts.{LineView, chart_lines}
use Rattle.chart.specs.Reports.{ReportView}
use Rattle.chart.proofs.Tally.{ith_within}
use Rattle.race_verdicts.specs.declared.verdict.Verdict.{Verdict}
use Rattle.race_verdicts.specs.declared.verdict.Verdict.TheVariants.{Luck, EarlierIsSend, BegunInTheMiddle, OrderedByLeftOut, WouldNotTake, PassedOver, BehindAnother, Any}
use Rattle.races_text.specs.Judged.LogVerdicts.{IsReceiveAndEvent}
use Rattle.repair.specs.Counted.{IsWithin, IsPlaced}
use Rattle.cmd_mend.specs.Luck.{AreLucky, IsLuckOf, AreLuckOf, AddsLuck, AddsReport}
use Rattle.cmd_mend.specs.Luck.AreLucky.{none, luck, other}
use Rattle.cmd_mend.specs.Luck.AreLuckOf.{nothing, more, without}
use Rattle.cmd_mend.specs.Verdicts.{is_luck}

its_luck : (verdict : Verdict) → is_luck verdict ≡ true → verdict ≡ Luck
its_luck Luck is = refl
its_luck EarlierIsSend is = absurd (false≢true is)
its_luck BegunInTheMiddle is = absurd (false≢true is)
its_luck OrderedByLeftOut is = absurd (false≢true is)
its_luck WouldNotTake is = absurd (false≢true is)
its_luck PassedOver is = absurd (false≢true is)
its_luck BehindAnother is = absurd (false≢true is)
its_luck Any is = absurd (false≢true is)

no_luck : (verdict : Verdict) → is_luck verdict ≡ false → verdict ≢ Luck
no_luck verdict is same = false≢true (sym is ∙ subst (λ (v : Verdict). is_luck v ≡ true) (sym same) refl)

-- one event more

push_luck : {is : EventNo → Verdict → Type 0} {es lucky : List EventNo} (e : EventNo) → is e Luck → AreLucky is es lucky → AreLucky is (es ++ e ∷ []) (lucky ++ e ∷ [])
push_luck e its none = luck its none
push_luck e its (luck first rest) = luck first (push_luck e its rest)
push_luck e its (other verdict first apart rest) = other verdict first apart (push_luck e its rest)

push_other : {is : EventNo → Verdict → Type 0} {es lucky : List EventNo} (e : EventNo) (verdict : Verdict) → is e verdict → verdict ≢ Luck → AreLucky is es lucky → AreLucky is (es ++ e ∷ []) lucky
push_other e verdict its off none = other verdict its off none
push_other e verdict its off (luck first rest) = luck first (push_other e verdict its off rest)
push_other e verdict its off (other v first apart rest) = other v first apart (push_other e verdict its off rest)

pub event_luck : (is : EventNo → Verdict → Type 0) (e : EventNo) (verdict : Verdict) (old : List EventNo) → is e verdict → is_luck verdict ≡ true → AddsLuck is e old (old ++ e ∷ [])
event_luck is e verdict old its so es are = push_luck e (subst (is e) (its_luck verdict so) its) are

pub event_other : (is : EventNo → Verdict → Type 0) (e : EventNo) (verdict : Verdict) (old : List EventNo) → is e verdict → is_luck verdict ≡ false → AddsLuck is e old old
event_other is e verdict old its off es are = push_other e verdict its (no_luck verdict off) are

-- one report more

push_report : {is : EventNo → EventNo → Verdict → Type 0} {rs lucky : List ReportView} (report one : ReportView) → IsLuckOf is report one → 0 < length one.earlier → AreLuckOf is rs lucky → AreLuckOf is (rs ++ report ∷ []) (lucky ++ one ∷ [])
push_report report one its some nothing = more its some nothing
push_report report one its some (more first has rest) = more first has (push_report report one its some rest)
push_report report one its some (without first rest) = without first (push_report report one its some rest)

push_without : {is : EventNo → EventNo → Verdict → Type 0} {rs lucky : List ReportView} (report : ReportView) → AreLucky (is report.receive) report.earlier [] → AreLuckOf is rs lucky → AreLuckOf is (rs ++ report ∷ []) lucky
push_without report its nothing = without its nothing
push_without report its (more first has rest) = more first has (push_without report its rest)
push_without report its (without first rest) = without first (push_without report its rest)

pub report_luck : (is : EventNo → EventNo → Verdict → Type 0) (report : ReportView) (lucky : List EventNo) (old : List ReportView) → AreLucky (is report.receive) report.earlier lucky → 0 < length lucky → AddsReport is report old (old ++ record { receive = report.receive; earlier = lucky } ∷ [])
report_luck is report lucky old its some rs are = push_report report (record { receive = report.receive; earlier = lucky }) (record { receive = refl; earlier = its }) some are

pub report_without : (is : EventNo → EventNo → Verdict → Type 0) (report : ReportView) (old : List ReportView) → AreLucky (is report.receive) report.earlier [] → AddsReport is report old old
report_without is report old its rs are = push_without report its are

-- each is one of the events

among : {is : EventNo → Verdict → Type 0} (P : EventNo → Type 0) {es lucky : List EventNo} → AreLucky is es lucky → All P es → All P lucky
among P none each = All-nil P
among P (luck {e = e} {events = es} {lucky = lucky} its rest) each = All-cons P e lucky (All-head P e es each) (among P rest (All-tail P e es each))
among P (other {e = e} {events = es} {lucky = lucky} verdict its off rest) each = among P rest (All-tail P e es each)

abbrev AreOf : List LineView → ReportView → Type 0
AreOf lines report = All (IsReceiveAndEvent lines report.receive) report.earlier

some_within : (lines : List LineView) (receive : EventNo) (events : List EventNo) → 0 < length events → All (IsReceiveAndEvent lines receive) events → IsWithin lines receive
some_within lines receive [] some each = absurd (omega (arith, some))
some_within lines receive (e ∷ es) some each =
    let has = (All-head (IsReceiveAndEvent lines receive) e es each).0 in
    (ith_within (chart_lines lines receive.instance) receive.index has.1.0 has.1.1).1

placed_one : (is : EventNo → EventNo → Verdict → Type 0) (lines : List LineView) (report lucky : ReportView) → IsLuckOf is report lucky → 0 < length lucky.earlier → AreOf lines report → IsPlaced lines lucky
placed_one is lines report lucky its some each =
    let those = among (IsReceiveAndEvent lines report.receive) its.earlier each in record {
      receive = subst (IsWithin lines) (sym its.receive) (some_within lines report.receive lucky.earlier some those);
      earlier = All-weaker (IsReceiveAndEvent lines report.receive) (IsWithin lines) (λ e both. both.1.1) lucky.earlier those;
    }

pub luck_placed : {is : EventNo → EventNo → Verdict → Type 0} (lines : List LineView) {rs lucky : List ReportView} → AreLuckOf is rs lucky → All (AreOf lines) rs → All (IsPlaced lines) lucky
luck_placed lines nothing each = All-nil (IsPlaced lines)
luck_placed {is = is} lines (more {report = r} {lucky = l} {reports = rs} {others = ls} its some rest) each =
    All-cons (IsPlaced lines) l ls (placed_one is lines r l its some (All-head (AreOf lines) r rs each)) (luck_placed lines rest (All-tail (AreOf lines) r rs each))
luck_placed lines (without {report = r} {reports = rs} its rest) each = luck_placed lines rest (All-tail (AreOf lines) r rs each)
