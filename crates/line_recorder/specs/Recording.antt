-- What the recorder of an instance has after a history (this project's profile).
use Rattle.std.specs.Prelude.{◌≡◌, ℕ, List, map, All}
use Rattle.chart.specs.declared.history.Occurrence.{Occurrence}
use Rattle.chart.specs.Histories.{chart_of}
use Rattle.chart.specs.Reports.{IsReportIn, receives_of}
use Rattle.line_recorder.specs.Carried.{knowledge_of}
use Rattle.line_recorder.specs.Recorders.{RecorderView}

-- the recorder has p's line in the chart of the history, what p knows, and the reports of its receives
pub record IsRecorder (n : ℕ) (h : List Occurrence) (p : ℕ) (recorder : RecorderView) : Type 0 where
  pub line : recorder.line ≡ record { instance = p; events = chart_of h p }
  pub knowledge : recorder.knowledge ≡ knowledge_of n h p
  pub receives : map (λ report. report.receive) recorder.reports ≡ receives_of recorder.line
  pub reports : All (IsReportIn (chart_of h)) recorder.reports
