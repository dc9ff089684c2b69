-- Which old receive each report of the new chart is of: a statement that a function of `laws` proves (this project's
-- own).
use Rattle.std.specs.Prelude.{◌≡◌, List, map}
use Rattle.chart.specs.Charts.{LineView, IsNumbered, chart_lines}
use Rattle.chart.specs.Reports.{ReportView, AreReports}
use Rattle.repair.specs.Growing.{line_with}
use Rattle.repair.specs.Messages.{NewMessage, IsWith}
use Rattle.repair.specs.Moves.{moved_event}
use Rattle.cmd_mend.specs.Changes.{old_receives}

-- without the new receive's report the new chart's reports are, one by one, those of the old chart's receives
abbrev pub PlacesLaw : Type 0
PlacesLaw = (m : NewMessage) (lines : List LineView) (olds news : List ReportView) → IsNumbered lines
    → IsWith m (chart_lines lines) (chart_lines (map (line_with m) lines)) → AreReports lines olds
    → AreReports (map (line_with m) lines) news
    → map (λ r. r.receive) (old_receives m news) ≡ map (λ r. moved_event m r.receive) olds
