use Rattle.std.proofs.Common.{take}
use Rattle.std.specs.List.{flat_map}
use Rattle.cmd_mend.specs.Brief.{shown_of, Shows}
use Rattle.cmd_mend.proofs.brief.add_reports.Given as goal

-- those of the first reports were added
abbrev pub invariant-loop-report : goal.invariant-loop-report
invariant-loop-report l = Shows l.initial.shown.items l.shown.items (flat_map (shown_of l.fate) (take l.report-index l.reports))
