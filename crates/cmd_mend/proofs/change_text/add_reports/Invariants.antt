use Rattle.std.proofs.Common.{take}
use Rattle.std.specs.List.{flat_map}
use Rattle.texts.specs.Writing.{Buffers}
use Rattle.cmd_mend.specs.ChangeText.{report_text}
use Rattle.cmd_mend.proofs.change_text.add_reports.Given as goal

-- those so far were added
abbrev pub invariant-loop-report : goal.invariant-loop-report
invariant-loop-report g l = Buffers g.V.Out.sink l.initial.text l.text (flat_map (report_text l.word l.names l.lines) (take l.report-index l.reports))
