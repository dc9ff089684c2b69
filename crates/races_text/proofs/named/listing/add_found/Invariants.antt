use Rattle.std.proofs.Common.{◌≡◌, List}
use Rattle.chart.specs.Charts.{chart_lines}
use Rattle.chart.specs.Reports.{ReportView}
use Rattle.closure.specs.Reported.{HaveReported, reports_left}
use Rattle.texts.specs.Writing.{Buffers}
use Rattle.races_text.specs.Named.Listing.{manner_of, races_text, shows_races}
use Rattle.shown_races.specs.Selected.{AreSelectedOf}
use Rattle.races_text.proofs.named.listing.add_found.Given as goal

-- the listed text of the earlier reports was added
abbrev pub invariant-loop-receive : goal.invariant-loop-receive
invariant-loop-receive g l =
    (l.reporter.lines ≡ l.initial.reporter.lines) × ((reports : List ReportView) × (shown : List ReportView) × HaveReported l.initial.reporter.lines l.reporter.line l.reporter.place reports
    × AreSelectedOf (manner_of l.selected).completed (chart_lines l.selected.lines.now) reports shown × Buffers g.W.Out.sink l.initial.text l.text (races_text (manner_of l.selected) l.selected.names.now l.selected.lines.now shown)
    × (l.has_races ≡ shows_races (manner_of l.selected) l.selected.lines.now shown))

abbrev pub decreases-loop-receive : goal.decreases-loop-receive
decreases-loop-receive g l = reports_left l.reporter
