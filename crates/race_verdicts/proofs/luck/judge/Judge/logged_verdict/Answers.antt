use Rattle.std.proofs.Common.{◌<◌, ◌↔◌, List, sym, subst, length}
use Rattle.std.specs.Prelude.{IsTrue}
use Rattle.std.proofs.lemmas.Option.{slice_get_within}
use Rattle.log_chart.specs.declared.item.MessageNo.TheVariants as messages
use Rattle.log_chart.specs.declared.matching.LogLine.{LogLine}
use Rattle.race_verdicts.specs.Luck.Arrivals.{CameFirst}
use Rattle.race_verdicts.specs.Luck.Behind.{IsBehind}
use Rattle.race_verdicts.specs.Luck.Judging.{IsJudge}
use Rattle.race_verdicts.specs.Luck.Recorded.{JudgeView}
use Rattle.race_verdicts.specs.Luck.Taking.{WouldTake}
use Rattle.race_verdicts.specs.Luck.WholeOrder.{IsAhead}
use Rattle.race_verdicts.proofs.LuckLemmas.JudgeLemmas.{false_not, logged_would_not, logged_passed, logged_behind, logged_luck}
use Rattle.race_verdicts.specs.Recordings.{RecordingView, recording_view}
use Rattle.race_verdicts.proofs.luck.judge.Judge.logged_verdict.Goals as goal

pub returns-then-not-would_take : goal.returns-then-not-would_take
returns-then-not-would_take c =
    let now = c.args.self.now in
    let inside = c.self.inside in
    let judge = subst (λ (v : JudgeView). IsJudge v (recording_view inside.recording) inside.taking inside.arrivals inside.lanes inside.order inside.runs) c.self.view_is c.self.invariant in
    let ahead = subst (λ (l : List LogLine). IsTrue c.is_ahead.result ↔ IsAhead l c.args.line c.args.send) judge.order_is c.is_ahead.ensures in
    let takes = subst (λ (r : RecordingView). IsTrue c.would_take.result ↔ WouldTake r c.args.line c.args.send) judge.taking_is c.would_take.ensures in
    logged_would_not now.recording c.args.line c.args.own c.args.send (false_not c.is_ahead.result ahead c.if-is_ahead.false) (false_not c.would_take.result takes c.if-not-would_take.true)

pub came_first-requires-clause-message : goal.came_first-requires-clause-message
came_first-requires-clause-message c =
    let now = c.args.self.now in
    let inside = c.self.inside in
    let judge = subst (λ (v : JudgeView). IsJudge v (recording_view inside.recording) inside.taking inside.arrivals inside.lanes inside.order inside.runs) c.self.view_is c.self.invariant in
    let send = c.requires.send in
    subst (λ (r : RecordingView). c.args.send < length r.lines) (sym judge.arrivals_are) (slice_get_within now.recording.lines c.args.send send.line send.is)

pub returns-then-came_first : goal.returns-then-came_first
returns-then-came_first c =
    let now = c.args.self.now in
    let inside = c.self.inside in
    let judge = subst (λ (v : JudgeView). IsJudge v (recording_view inside.recording) inside.taking inside.arrivals inside.lanes inside.order inside.runs) c.self.view_is c.self.invariant in
    let ahead = subst (λ (l : List LogLine). IsTrue c.is_ahead.result ↔ IsAhead l c.args.line c.args.send) judge.order_is c.is_ahead.ensures in
    let takes = subst (λ (r : RecordingView). IsTrue c.would_take.result ↔ WouldTake r c.args.line c.args.send) judge.taking_is c.would_take.ensures in
    let came = subst (λ (r : RecordingView). IsTrue c.came_first.result ↔ CameFirst r (messages.Sent c.args.send) c.args.own) judge.arrivals_are c.came_first.ensures in
    logged_passed now.recording c.args.line c.args.own c.args.send (false_not c.is_ahead.result ahead c.if-is_ahead.false) (takes.0 c.if-not-would_take.false) (came.0 c.if-came_first.true)

pub returns-then-is_behind : goal.returns-then-is_behind
returns-then-is_behind c =
    let now = c.args.self.now in
    let inside = c.self.inside in
    let judge = subst (λ (v : JudgeView). IsJudge v (recording_view inside.recording) inside.taking inside.arrivals inside.lanes inside.order inside.runs) c.self.view_is c.self.invariant in
    let ahead = subst (λ (l : List LogLine). IsTrue c.is_ahead.result ↔ IsAhead l c.args.line c.args.send) judge.order_is c.is_ahead.ensures in
    let takes = subst (λ (r : RecordingView). IsTrue c.would_take.result ↔ WouldTake r c.args.line c.args.send) judge.taking_is c.would_take.ensures in
    let came = subst (λ (r : RecordingView). IsTrue c.came_first.result ↔ CameFirst r (messages.Sent c.args.send) c.args.own) judge.arrivals_are c.came_first.ensures in
    let behind = subst (λ (r : RecordingView). IsTrue c.is_behind.result ↔ IsBehind r c.args.line c.args.own c.args.send) judge.lanes_are c.is_behind.ensures in
    logged_behind now.recording c.args.line c.args.own c.args.send (false_not c.is_ahead.result ahead c.if-is_ahead.false) (takes.0 c.if-not-would_take.false) (false_not c.came_first.result came c.if-came_first.false) (behind.0 c.if-is_behind.true)

pub returns : goal.returns
returns c =
    let now = c.args.self.now in
    let inside = c.self.inside in
    let judge = subst (λ (v : JudgeView). IsJudge v (recording_view inside.recording) inside.taking inside.arrivals inside.lanes inside.order inside.runs) c.self.view_is c.self.invariant in
    let ahead = subst (λ (l : List LogLine). IsTrue c.is_ahead.result ↔ IsAhead l c.args.line c.args.send) judge.order_is c.is_ahead.ensures in
    let takes = subst (λ (r : RecordingView). IsTrue c.would_take.result ↔ WouldTake r c.args.line c.args.send) judge.taking_is c.would_take.ensures in
    let came = subst (λ (r : RecordingView). IsTrue c.came_first.result ↔ CameFirst r (messages.Sent c.args.send) c.args.own) judge.arrivals_are c.came_first.ensures in
    let behind = subst (λ (r : RecordingView). IsTrue c.is_behind.result ↔ IsBehind r c.args.line c.args.own c.args.send) judge.lanes_are c.is_behind.ensures in
    logged_luck now.recording c.args.line c.args.own c.args.send (false_not c.is_ahead.result ahead c.if-is_ahead.false) (takes.0 c.if-not-would_take.false) (false_not c.came_first.result came c.if-came_first.false) (false_not c.is_behind.result behind c.if-is_behind.false)
