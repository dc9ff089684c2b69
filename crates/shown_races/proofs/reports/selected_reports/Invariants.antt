use Rattle.std.proofs.Common.{take}
use Rattle.shown_races.specs.Selected.{is_there}
use Rattle.shown_races.proofs.ShownLemmas.{HaveShown}
use Rattle.shown_races.proofs.reports.selected_reports.Given as goal

-- the races of the first reports that are shown
abbrev pub invariant-loop-report : goal.invariant-loop-report
invariant-loop-report l = HaveShown l.only (is_there l.completion) l.lines (take l.report-index l.reports) l.shown.items
