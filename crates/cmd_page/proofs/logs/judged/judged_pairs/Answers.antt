use Rattle.std.proofs.Common.{◌+◌, List, [], sym, subst, take}
use Rattle.races_text.specs.Judged.LogVerdicts.{verdict_in}
use Rattle.std.specs.Prelude.{All}
use Rattle.std.proofs.lemmas.List.Elements.{All-nil}
use Rattle.cmd_page.specs.declared.marks.pairs.RaceRange.{RaceRange}
use Rattle.cmd_page.specs.Marks.Judging.{AreJudged, IsOfLines}
use Rattle.cmd_page.specs.Marks.Judging.AreJudged.{none}
use Rattle.cmd_page.specs.Marks.Pairing.{HasRange}
use Rattle.cmd_page.proofs.JudgedLemmas.{judged_more}
use Rattle.cmd_page.proofs.logs.judged.judged_pairs.Goals as goal

pub loop-report-init : goal.loop-report-init
loop-report-init c =
    let judge = c.args.verdicts.now.judge in
    subst (λ (ps : List RaceRange). AreJudged (verdict_in judge.lines judge.recording) [] ps × All HasRange ps) (sym c.new-pairs.ensures.items) (none, All-nil HasRange)

pub add_judged-requires-clause-races : goal.add_judged-requires-clause-races
add_judged-requires-clause-races c =
    subst (IsOfLines c.args.verdicts.now.judge.lines) (sym c.report-item.is) (c.requires c.loop-report.report-index _ c.loop-report-test.true)

pub loop-report-preserved : goal.loop-report-preserved
loop-report-preserved c =
    let judge = c.args.verdicts.now.judge in
    let more = c.in_ok-add_judged.ensures.pairs in
    let reports = c.args.reports.now in (
      subst (λ (ps : List RaceRange). AreJudged (verdict_in judge.lines judge.recording) (take (c.loop-report.report-index + 1) reports) ps) (sym more.2)
          (judged_more (verdict_in judge.lines judge.recording) reports c.loop-report.report-index _ more.0 c.loop-report-test.true c.report-item.is c.loop-report.invariant.0 more.1),
      c.in_ok-add_judged.ensures.has,
    )
