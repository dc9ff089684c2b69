use Rattle.std.proofs.Common.{◌≡◌, ◌↔◌, ◌∙◌, Some, sym, subst, length}
use Rattle.std.specs.Prelude.{IsTrue}
use Rattle.std.proofs.lemmas.Bool.{false≢true}
use Rattle.chart.specs.Charts.{Place, chart_lines}
use Rattle.chart.specs.Order.{Before}
use Rattle.closure.specs.Faults.{place_of}
use Rattle.log_chart.specs.FateTables.{IsWithin}
use Rattle.race_verdicts.specs.Luck.Judging.{IsJudge}
use Rattle.race_verdicts.specs.Luck.Places.{item_at, IsInvented}
use Rattle.race_verdicts.specs.Luck.Recorded.{IsNamed, JudgeView}
use Rattle.race_verdicts.specs.Luck.Verdicts.IsBegunBefore.{unlogged, itself, before as comes_before}
use Rattle.race_verdicts.proofs.LuckLemmas.ItemLemmas.{of_log}
use Rattle.race_verdicts.proofs.LuckLemmas.JudgeLemmas.{named_within, verdict_send, verdict_begun, verdict_logged, not_begun, begun_of}
use Rattle.race_verdicts.specs.Recordings.{RecordingView, recording_view}
use Rattle.race_verdicts.proofs.luck.judge.Judge.verdict.Goals as goal

pub returns-in_default : goal.returns-in_default
returns-in_default c =
    let now = c.args.self.now in
    let inside = c.self.inside in
    let judge = subst (λ (v : JudgeView). IsJudge v (recording_view inside.recording) inside.taking inside.arrivals inside.lanes inside.order inside.runs) c.self.view_is c.self.invariant in
    let receive = subst (λ (r : RecordingView). item_at r (place_of c.args.receive) ≡ Some c.item_at-item.result) judge.same c.item_at-item.ensures in
    let earlier = subst (λ (r : RecordingView). item_at r (place_of c.args.earlier) ≡ Some c.item_at-before.result) judge.same c.item_at-before.ensures in
    verdict_begun now.lines now.recording (place_of c.args.receive) (place_of c.args.earlier) c.item_at-item.result c.item_at-before.result receive earlier (unlogged c.in_default.is)

pub returns-in_default-message : goal.returns-in_default-message
returns-in_default-message c =
    let now = c.args.self.now in
    let inside = c.self.inside in
    let judge = subst (λ (v : JudgeView). IsJudge v (recording_view inside.recording) inside.taking inside.arrivals inside.lanes inside.order inside.runs) c.self.view_is c.self.invariant in
    let receive = subst (λ (r : RecordingView). item_at r (place_of c.args.receive) ≡ Some c.item_at-item.result) judge.same c.item_at-item.ensures in
    let earlier = subst (λ (r : RecordingView). item_at r (place_of c.args.earlier) ≡ Some c.item_at-before.result) judge.same c.item_at-before.ensures in
    let begun = begun_of c.item_at-item.result.message c.in_default-message.not-Sent in
    verdict_begun now.lines now.recording (place_of c.args.receive) (place_of c.args.earlier) c.item_at-item.result c.item_at-before.result receive earlier (itself begun.0 begun.1)

pub returns-then-are_before : goal.returns-then-are_before
returns-then-are_before c =
    let now = c.args.self.now in
    let inside = c.self.inside in
    let judge = subst (λ (v : JudgeView). IsJudge v (recording_view inside.recording) inside.taking inside.arrivals inside.lanes inside.order inside.runs) c.self.view_is c.self.invariant in
    let receive = subst (λ (r : RecordingView). item_at r (place_of c.args.receive) ≡ Some c.item_at-item.result) judge.same c.item_at-item.ensures in
    let earlier = subst (λ (r : RecordingView). item_at r (place_of c.args.earlier) ≡ Some c.item_at-before.result) judge.same c.item_at-before.ensures in
    let before = subst (λ (v : JudgeView). IsTrue c.are_before.result ↔ ((e : Place) × IsInvented v.recording e × Before (chart_lines v.lines) e (place_of c.args.receive))) c.self.view_is c.are_before.ensures in
    let w = before.0 c.if-are_before.true in
    verdict_begun now.lines now.recording (place_of c.args.receive) (place_of c.args.earlier) c.item_at-item.result c.item_at-before.result receive earlier (comes_before w.0 w.1 w.2)

pub returns-then-before : goal.returns-then-before
returns-then-before c =
    let now = c.args.self.now in
    let inside = c.self.inside in
    let judge = subst (λ (v : JudgeView). IsJudge v (recording_view inside.recording) inside.taking inside.arrivals inside.lanes inside.order inside.runs) c.self.view_is c.self.invariant in
    let receive = subst (λ (r : RecordingView). item_at r (place_of c.args.receive) ≡ Some c.item_at-item.result) judge.same c.item_at-item.ensures in
    let earlier = subst (λ (r : RecordingView). item_at r (place_of c.args.earlier) ≡ Some c.item_at-before.result) judge.same c.item_at-before.ensures in
    let before = subst (λ (v : JudgeView). IsTrue c.are_before.result ↔ ((e : Place) × IsInvented v.recording e × Before (chart_lines v.lines) e (place_of c.args.receive))) c.self.view_is c.are_before.ensures in
    verdict_send now.lines now.recording (place_of c.args.receive) (place_of c.args.earlier) c.item_at-item.result c.item_at-before.result receive earlier
    (not_begun now.lines now.recording (place_of c.args.receive) c.item_at-item.result c.item_at-before.result c.in-Some.line c.in-Sent.send c.in-Some.is c.in-Sent.is
    (λ (e : Place) (its : IsInvented now.recording e) (is : Before (chart_lines now.lines) e (place_of c.args.receive)). false≢true (sym c.if-are_before.false ∙ before.1 (e, its, is))))
    c.if-before.true

pub logged_verdict-requires-clause-line : goal.logged_verdict-requires-clause-line
logged_verdict-requires-clause-line c =
    let now = c.args.self.now in
    let inside = c.self.inside in
    let judge = subst (λ (v : JudgeView). IsJudge v (recording_view inside.recording) inside.taking inside.arrivals inside.lanes inside.order inside.runs) c.self.view_is c.self.invariant in
    let receive = subst (λ (r : RecordingView). item_at r (place_of c.args.receive) ≡ Some c.item_at-item.result) judge.same c.item_at-item.ensures in
    let earlier = subst (λ (r : RecordingView). item_at r (place_of c.args.earlier) ≡ Some c.item_at-before.result) judge.same c.item_at-before.ensures in
    let log = of_log now.lines now.recording judge.recording (place_of c.args.earlier) c.item_at-before.result earlier in
    subst (IsWithin (length now.recording.lines)) c.in-Some.is log.line

pub logged_verdict-requires-clause-own : goal.logged_verdict-requires-clause-own
logged_verdict-requires-clause-own c =
    let now = c.args.self.now in
    let inside = c.self.inside in
    let judge = subst (λ (v : JudgeView). IsJudge v (recording_view inside.recording) inside.taking inside.arrivals inside.lanes inside.order inside.runs) c.self.view_is c.self.invariant in
    let receive = subst (λ (r : RecordingView). item_at r (place_of c.args.receive) ≡ Some c.item_at-item.result) judge.same c.item_at-item.ensures in
    let earlier = subst (λ (r : RecordingView). item_at r (place_of c.args.earlier) ≡ Some c.item_at-before.result) judge.same c.item_at-before.ensures in
    let log = of_log now.lines now.recording judge.recording (place_of c.args.earlier) c.item_at-before.result earlier in
    named_within now.recording.lines c.item_at-before.result.message log.message

pub logged_verdict-requires-clause-send : goal.logged_verdict-requires-clause-send
logged_verdict-requires-clause-send c =
    let now = c.args.self.now in
    let inside = c.self.inside in
    let judge = subst (λ (v : JudgeView). IsJudge v (recording_view inside.recording) inside.taking inside.arrivals inside.lanes inside.order inside.runs) c.self.view_is c.self.invariant in
    let receive = subst (λ (r : RecordingView). item_at r (place_of c.args.receive) ≡ Some c.item_at-item.result) judge.same c.item_at-item.ensures in
    let earlier = subst (λ (r : RecordingView). item_at r (place_of c.args.earlier) ≡ Some c.item_at-before.result) judge.same c.item_at-before.ensures in
    let log = of_log now.lines now.recording judge.recording (place_of c.args.receive) c.item_at-item.result receive in
    subst (IsNamed now.recording.lines) c.in-Sent.is log.message

pub returns : goal.returns
returns c =
    let now = c.args.self.now in
    let inside = c.self.inside in
    let judge = subst (λ (v : JudgeView). IsJudge v (recording_view inside.recording) inside.taking inside.arrivals inside.lanes inside.order inside.runs) c.self.view_is c.self.invariant in
    let receive = subst (λ (r : RecordingView). item_at r (place_of c.args.receive) ≡ Some c.item_at-item.result) judge.same c.item_at-item.ensures in
    let earlier = subst (λ (r : RecordingView). item_at r (place_of c.args.earlier) ≡ Some c.item_at-before.result) judge.same c.item_at-before.ensures in
    let before = subst (λ (v : JudgeView). IsTrue c.are_before.result ↔ ((e : Place) × IsInvented v.recording e × Before (chart_lines v.lines) e (place_of c.args.receive))) c.self.view_is c.are_before.ensures in
    verdict_logged now.lines now.recording (place_of c.args.receive) (place_of c.args.earlier) c.item_at-item.result c.item_at-before.result receive earlier c.in-Some.line c.in-Sent.send c.in-Some.is c.in-Sent.is c.logged_verdict.result
    (λ sends. false≢true (sym c.if-before.false ∙ sends))
    (not_begun now.lines now.recording (place_of c.args.receive) c.item_at-item.result c.item_at-before.result c.in-Some.line c.in-Sent.send c.in-Some.is c.in-Sent.is
    (λ (e : Place) (its : IsInvented now.recording e) (is : Before (chart_lines now.lines) e (place_of c.args.receive)). false≢true (sym c.if-are_before.false ∙ before.1 (e, its, is))))
    c.logged_verdict.ensures
