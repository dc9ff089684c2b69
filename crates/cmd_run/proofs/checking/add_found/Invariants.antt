use Rattle.std.proofs.Common.{◌≡◌, List}
use Rattle.chart.specs.Reports.{ReportView, has_races}
use Rattle.closure.specs.Reported.{HaveReported, reports_left}
use Rattle.msc_text.specs.RaceText.{races_text}
use Rattle.texts.specs.Writing.{Buffers}
use Rattle.cmd_run.proofs.checking.add_found.Given as goal

-- the reports so far were added
abbrev pub invariant-loop-receive : goal.invariant-loop-receive
invariant-loop-receive g l =
    (l.reporter.lines ≡ l.initial.reporter.lines) × ((reports : List ReportView) × HaveReported l.initial.reporter.lines l.reporter.line l.reporter.place reports × Buffers g.W.Out.sink l.initial.text l.text (races_text l.names reports) × (l.has_races ≡ has_races reports))

abbrev pub decreases-loop-receive : goal.decreases-loop-receive
decreases-loop-receive g l = reports_left l.reporter
