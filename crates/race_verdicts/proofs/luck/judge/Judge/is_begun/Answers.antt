use Rattle.std.proofs.Common.{◌≡◌, ◌↔◌, Some, refl, subst}
use Rattle.std.specs.Prelude.{IsTrue}
use Rattle.chart.specs.Charts.{Place, chart_lines}
use Rattle.chart.specs.Order.{Before}
use Rattle.closure.specs.Faults.{place_of}
use Rattle.race_verdicts.specs.Luck.Judging.{IsJudge}
use Rattle.race_verdicts.specs.Luck.Places.{item_at, IsInvented}
use Rattle.race_verdicts.specs.Luck.Recorded.{JudgeView}
use Rattle.race_verdicts.specs.Luck.Verdicts.IsBegun.{itself}
use Rattle.race_verdicts.proofs.LuckLemmas.RunLemmas.{begun_sent}
use Rattle.race_verdicts.specs.Recordings.{RecordingView, recording_view}
use Rattle.race_verdicts.proofs.luck.judge.Judge.is_begun.Goals as goal

pub returns-in-Begun : goal.returns-in-Begun
returns-in-Begun c =
    let inside = c.self.inside in
    let judge = subst (λ (v : JudgeView). IsJudge v (recording_view inside.recording) inside.taking inside.arrivals inside.lanes inside.order inside.runs) c.self.view_is c.self.invariant in
    let receive = subst (λ (r : RecordingView). item_at r (place_of c.args.receive.now) ≡ Some c.item_at-item.result) judge.same c.item_at-item.ensures in
    record { begun = (λ yes. itself c.item_at-item.result c.in-Begun.field-0 receive c.in-Begun.is, λ begun. refl); recording = judge.recording }

pub returns-in-Sent : goal.returns-in-Sent
returns-in-Sent c =
    let now = c.args.self.now in
    let inside = c.self.inside in
    let judge = subst (λ (v : JudgeView). IsJudge v (recording_view inside.recording) inside.taking inside.arrivals inside.lanes inside.order inside.runs) c.self.view_is c.self.invariant in
    let receive = subst (λ (r : RecordingView). item_at r (place_of c.args.receive.now) ≡ Some c.item_at-item.result) judge.same c.item_at-item.ensures in
    let before = subst (λ (v : JudgeView). IsTrue c.are_before.result ↔ ((e : Place) × IsInvented v.recording e × Before (chart_lines v.lines) e (place_of c.args.receive.now))) c.self.view_is c.are_before.ensures in
    record {
      begun = begun_sent now.lines now.recording (place_of c.args.receive.now) c.item_at-item.result c.in-Sent.field-0 receive c.in-Sent.is c.are_before.result before;
      recording = judge.recording;
    }
