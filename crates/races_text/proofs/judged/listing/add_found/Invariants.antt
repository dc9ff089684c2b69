use Rattle.std.proofs.Common.{◌≡◌, List}
use Rattle.chart.specs.Charts.{chart_lines}
use Rattle.chart.specs.Reports.{ReportView}
use Rattle.closure.specs.Reported.{HaveReported, reports_left}
use Rattle.texts.specs.Writing.{Buffers}
use Rattle.races_text.specs.Named.Listing.{manner_of}
use Rattle.shown_races.specs.Selected.{AreSelectedOf}
use Rattle.races_text.specs.Judged.Listing.{PartedReport, AreParted, luck_manner, luck_text, summary_of}
use Rattle.races_text.proofs.judged.listing.add_found.Given as goal

-- the listed ranges of the earlier reports were added
abbrev pub invariant-loop-receive : goal.invariant-loop-receive
invariant-loop-receive g l =
    (l.reporter.lines ≡ l.initial.reporter.lines) × ((reports : List ReportView) × (shown : List ReportView) × (parted : List PartedReport)
    × HaveReported l.initial.reporter.lines l.reporter.line l.reporter.place reports
    × AreSelectedOf (manner_of l.query.query).completed (chart_lines l.query.query.lines.now) reports shown
    × AreParted (g.V.Verdicts.is_verdict l.query.verdicts.now) (manner_of l.query.query) l.query.query.lines.now shown parted
    × Buffers g.W.Out.sink l.initial.text l.text (luck_text (luck_manner l.query) l.query.query.names.now l.query.query.lines.now parted)
    × (l.summary ≡ summary_of (luck_manner l.query) parted))

abbrev pub decreases-loop-receive : goal.decreases-loop-receive
decreases-loop-receive g l = reports_left l.reporter
