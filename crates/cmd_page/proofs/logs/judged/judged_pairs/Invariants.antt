use Rattle.std.proofs.Common.{take}
use Rattle.std.specs.Prelude.{All}
use Rattle.races_text.specs.Judged.LogVerdicts.{verdict_in}
use Rattle.cmd_page.specs.Marks.Judging.{AreJudged}
use Rattle.cmd_page.specs.Marks.Pairing.{HasRange}
use Rattle.cmd_page.proofs.logs.judged.judged_pairs.Given as goal

-- those of the reports so far
abbrev pub invariant-loop-report : goal.invariant-loop-report
invariant-loop-report l =
    AreJudged (verdict_in l.verdicts.judge.lines l.verdicts.judge.recording) (take l.report-index l.reports) l.pairs.items × All HasRange l.pairs.items
