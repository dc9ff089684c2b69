use Rattle.std.proofs.Common.{take}
use Rattle.races_text.specs.Judged.LogVerdicts.{verdict_in}
use Rattle.cmd_mend.specs.Claims.{SumsAll}
use Rattle.cmd_mend.proofs.claims.summary_of.Given as goal

abbrev pub invariant-loop-report : goal.invariant-loop-report
invariant-loop-report l = SumsAll (verdict_in l.judge.lines l.judge.recording) (take l.report-index l.reports) l.sum
