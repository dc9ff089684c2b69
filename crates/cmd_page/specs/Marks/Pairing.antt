-- The races of a page, and the number of those that are described in full (this project's own).
use Rattle.std.specs.Prelude.{◌≡◌, ℕ, List, map, min, nat_lt, Option, None, Some, if◌then◌else◌}
use Rattle.std.specs.List.{flat_map}
use Rattle.chart.specs.declared.instance.EventNo.{EventNo}
use Rattle.chart.specs.declared.ranges.EventRange.{EventRange}
use Rattle.chart.specs.Ranges.{IsRange, ranges_of}
use Rattle.chart.specs.Charts.{LineView}
use Rattle.chart.specs.Reports.{ReportView, AreReports}
use Rattle.cmd_page.specs.declared.marks.pairs.RaceRange.{RaceRange}

-- its earlier events are neighbours, there is at least one, and their numbers are within 32 bits
abbrev pub HasRange : RaceRange → Type 0
HasRange race = IsRange race.earlier

abbrev pub pair_of : EventNo → EventRange → RaceRange
pair_of receive range = record { receive = receive; earlier = range; verdict = None }

-- the races of a report: one for each range of neighbours, as long as possible
abbrev pub pairs_in : ReportView → List RaceRange
pairs_in report = map (pair_of report.receive) (ranges_of report.earlier)

abbrev pub pairs_of : List ReportView → List RaceRange
pairs_of reports = flat_map pairs_in reports

-- the races of a page: the given ones, or one for each range of the chart's reports
abbrev pub ArePageRaces : Option (List RaceRange) → List LineView → List RaceRange → Type 0
ArePageRaces None lines races = (reports : List ReportView) × AreReports lines reports × (races ≡ pairs_of reports)
ArePageRaces (Some given) lines races = races ≡ given

-- the number of races that are described in full: the first hundred at most, and none for a file of more than 131,072
-- bytes
abbrev pub explained_of : ℕ → ℕ → ℕ
explained_of bytes races = if nat_lt 131072 bytes then 0 else min 100 races
