-- The notes of an export's rows and the tool's rows above them (this project's profile).
use Rattle.std.specs.Prelude.{◌≡◌, ℕ, ◌+◌, ◌-◌, ◌^◌, ◌==◌, min, List, [], ◌∷◌, length, replicate, slice_set, Option, None, Some, if◌then◌else◌}
use Rattle.chart.specs.Charts.{LineView}
use Rattle.chart.specs.Reports.{ReportView}
use Rattle.chart.specs.declared.instance.EventNo.{EventNo}
use Rattle.closure.specs.Faults.{place_of}
use Rattle.chart_layout.specs.declared.row.Row.{Row}
use Rattle.chart_layout.specs.Layouts.{row_of}
use Rattle.diagram_tool.specs.declared.Tool.{Tool}
use Rattle.diagram_export.specs.Exports.{ExportView}

-- the notes of rows, with one more in this row
abbrev pub put_in : List (Option ℕ) → ℕ → Option ℕ → List (Option ℕ)
put_in notes place None = notes
put_in notes place (Some row) = slice_set notes row (Some place)

-- with the report at this place, whose note is in the row of its receive, if it has races
abbrev pub put_report : List Row → List (Option ℕ) → ℕ → ReportView → List (Option ℕ)
put_report rows notes place report = if length report.earlier == 0 then notes else
    put_in notes place (row_of rows (place_of report.receive))

-- with the reports from this place on
abbrev pub notes_from : List Row → ℕ → List (Option ℕ) → List ReportView → List (Option ℕ)
notes_from rows place notes [] = notes
notes_from rows place notes (report ∷ reports) =
    notes_from rows (place + 1) (put_report rows notes place report) reports

-- for each row, the place of its receive's report among the reports, if it has races
abbrev pub notes_of : List Row → List ReportView → List (Option ℕ)
notes_of rows reports = notes_from rows 0 (replicate (length rows) None) reports

-- the number of the tool's rows that a row has: one, and one more for its note
abbrev pub height : Option ℕ → ℕ
height None = 1
height (Some place) = 2

-- the number of the tool's rows down to the end of one more row, up to the greatest number of 32 bits
abbrev pub below : ℕ → Option ℕ → ℕ
below n note = min (n + height note) (2 ^ 32 - 1)

-- for each row, the number of the tool's rows above it; n are above the first row
abbrev pub starts_from : ℕ → List (Option ℕ) → List ℕ
starts_from n [] = []
starts_from n (note ∷ notes) = n ∷ starts_from (below n note) notes

-- the export of a chart, as it is drawn, to a tool
pub record IsExportOf (tool : Tool) (names : List (List ℕ)) (lines : List LineView) (rows : List Row)
    (reports : List ReportView) (ends : List (List (Option EventNo))) (v : ExportView) : Type 0 where
  pub tool_is : v.tool ≡ tool
  pub names_are : v.names ≡ names
  pub lines_are : v.lines ≡ lines
  pub rows_are : v.rows ≡ rows
  pub reports_are : v.reports ≡ reports
  pub ends_are : v.ends ≡ ends
  pub notes_are : v.notes ≡ notes_of rows reports
  pub starts_are : v.starts ≡ starts_from 0 (notes_of rows reports)
