-- The laws of this crate: statements that its functions prove (this project's own).
use Rattle.std.specs.Prelude.{◌≡◌, ◌≢◌, ◌⊎◌, ℕ, Bool, true, false, List, [], Option, None, Some, Result, Ok, All, slice_get}
use Rattle.chart.specs.Charts.{LineView, chart_lines}
use Rattle.chart.specs.Reports.{ReportView, AreReports, has_races}
use Rattle.chart.specs.declared.instance.EventNo.{EventNo}
use Rattle.diagrams.specs.Building.{DiagramChartView}
use Rattle.diagrams.specs.declared.left_out.Kind.TheVariants.{Note}
use Rattle.diagram_import.specs.Importing.{OptionsView, imported}
use Rattle.diagram_import.specs.Refusals.{Refusal}
use Rattle.diagram_export.specs.Exports.{ExportView}
use Rattle.diagram_export.specs.ExportText.{export_text}
use Rattle.diagram_export.specs.Preparing.{IsExportOf}
use Rattle.diagram_join.specs.Building.{JoinedChartView}
use Rattle.chart_layout.specs.Ends.{AreEnds}
use Rattle.chart_layout.specs.Picking.{IsLayout}
use Rattle.chart_layout.specs.declared.row.Row.{Row}
use Rattle.chart_layout.specs.declared.row.Row.TheVariants.{Message, Event}
use Rattle.diagram_tool.specs.declared.Tool.{Tool}
use Rattle.diagram_tool.specs.declared.Tool.TheVariants.{Mscgen}
use Rattle.diagram_round_trip.specs.LevelCharts.{IsLevelChart, Passed, at_once}

-- no line of the text is skipped, and no lines of the diagram are joined
abbrev pub all_lines : Bool → OptionsView
all_lines is_strict = record { skipped = []; joins = []; is_strict = is_strict }

-- the tool is named, or has to be detected
abbrev pub IsDetectedOr : Tool → Option Tool → Type 0
IsDetectedOr tool named = (named ≡ Some tool) ⊎ (named ≡ None)

-- the result is the chart with these names and lines; no name is reported, and only notes are skipped
pub record IsChartOf (names : List (List ℕ)) (lines : List LineView) (read : Result JoinedChartView Refusal) : Type 0 where
  pub built : DiagramChartView
  pub is : read ≡ Ok (record { built = built; overtaking = [] })
  pub same_names : built.names ≡ names
  pub same_lines : built.lines ≡ lines
  pub none_renamed : built.renamed ≡ []
  pub notes : All (λ l. l.kind ≡ Note) built.left_out

-- the export of a level chart to mscgen, with the races of its reports and the other ends of its messages
pub record IsLevelExport (names : List (List ℕ)) (lines : List LineView) (rows : List Row) (reports : List ReportView)
    (ends : List (List (Option EventNo))) (v : ExportView) : Type 0 where
  pub level : IsLevelChart names lines rows
  pub reports_are : AreReports lines reports
  pub ends_are : AreEnds (chart_lines lines) ends
  pub export : IsExportOf Mscgen names lines rows reports ends v

-- The text for mscgen is imported as the same chart, whether the tool is named or not. A strict import does so too, if
-- no receive has races: their notes would be skipped.
abbrev pub MscgenRoundTrip : Type 0
MscgenRoundTrip = (names : List (List ℕ)) (lines : List LineView) (rows : List Row) (reports : List ReportView)
    (ends : List (List (Option EventNo))) (v : ExportView) → IsLevelExport names lines rows reports ends v
    → (tool : Option Tool) → IsDetectedOr Mscgen tool → (is_strict : Bool) → (is_strict ≡ true → has_races reports ≡ false)
    → IsChartOf names lines (imported tool (export_text v) (all_lines is_strict))

-- there is such an export: that of a chart with a received message and a lost one
abbrev pub SomeLevelExport : Type 0
SomeLevelExport = (names : List (List ℕ)) × (lines : List LineView) × (rows : List Row) × (reports : List ReportView)
    × (ends : List (List (Option EventNo))) × (v : ExportView) × IsLevelExport names lines rows reports ends v
    × ((s : EventNo) × (r : EventNo) × (slice_get rows 0 ≡ Some (Message s r)))
    × ((e : EventNo) × (slice_get rows 1 ≡ Some (Event e)))

-- if each message is received before the next one is sent, the chart's layout draws it level, and no event is alone
abbrev pub LevelAtOnce : Type 0
LevelAtOnce = (lines : List LineView) (rows : List Row) (messages : List Passed) → IsLayout lines [] rows
    → ((p : ℕ) → chart_lines lines p ≡ at_once messages p) → All (λ m. m.from ≢ m.to) messages
    → (i : ℕ) (e : EventNo) → slice_get rows i ≡ Some (Event e) → ⊥
