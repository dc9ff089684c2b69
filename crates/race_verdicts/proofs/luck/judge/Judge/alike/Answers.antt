use Rattle.std.proofs.Common.{◌≡◌, ◌-◌, ◌∙◌, List, Some, sym, subst}
use Rattle.std.proofs.lemmas.Bool.{false≢true}
use Rattle.closure.specs.Faults.{place_of}
use Rattle.log_chart.specs.declared.item.Item.{Item}
use Rattle.race_verdicts.specs.Luck.Judging.{IsJudge}
use Rattle.race_verdicts.specs.Luck.Places.{host_items, items_of, item_at}
use Rattle.race_verdicts.specs.Luck.Recorded.{JudgeView}
use Rattle.race_verdicts.specs.Luck.Runs.{IsRun}
use Rattle.race_verdicts.proofs.LuckLemmas.RunLemmas.{alike_run}
use Rattle.race_verdicts.specs.Recordings.{RecordingView, recording_view}
use Rattle.race_verdicts.proofs.luck.judge.Judge.alike.Goals as goal

pub returns : goal.returns
returns c =
    let now = c.args.self.now in
    let inside = c.self.inside in
    let earlier = c.args.earlier.now in
    let judge = subst (λ (v : JudgeView). IsJudge v (recording_view inside.recording) inside.taking inside.arrivals inside.lanes inside.order inside.runs) c.self.view_is c.self.invariant in
    let first = subst (λ (r : RecordingView). item_at r (place_of earlier.first) ≡ Some c.item_at-first.result) judge.same c.item_at-first.ensures in
    let run = subst (λ (hosts : List (List Item)). IsRun (host_items hosts earlier.first.instance) (earlier.first.index - 1) c.count-run.result) judge.runs_are c.count-run.ensures in
    alike_run (items_of now.recording earlier.first.instance) earlier.first.index earlier.count c.count-run.result c.item_at-first.result c.requires.begun c.requires.range.some first
    (λ receive. false≢true (sym c.if-is.false ∙ c.is.ensures.1 (c.of.ensures ∙ receive))) run c.smaller_of.result c.smaller_of.ensures
