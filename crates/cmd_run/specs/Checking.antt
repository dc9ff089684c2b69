-- The races of a chart, written while they are found: for the functions that do it.
use Rattle.std.specs.Prelude.{◌≡◌, ℕ, List, Bool, Option, Result, IfOk}
use Rattle.chart.specs.Charts.{LineView}
use Rattle.chart.specs.Reports.{ReportView, AreReports, has_races}
use Rattle.texts.specs.Outs.{Sink}
use Rattle.msc_text.specs.RaceText.{races_text}
use Rattle.texts.specs.Writing.{Adds, Wrote}
use Rattle.texts.specs.declared.text_buffer.TextBuffer.{TextBuffer}

module _ {S E : Type 0} (sink : S → Sink) where
  -- the races of the chart with these lines were added to a text, and the result is whether there are any
  abbrev pub HasAdded : TextBuffer S → TextBuffer S → List (List ℕ) → List LineView → Result Bool E → Type 0
  HasAdded old new names lines result = (reports : List ReportView) × AreReports lines reports
      × Adds sink old new result (races_text names reports) × IfOk result (λ has. has ≡ has_races reports)

  -- the races were written, and the result is whether there are any
  abbrev pub HasWritten : S → S → List (List ℕ) → List LineView → Result Bool E → Type 0
  HasWritten old new names lines result = (reports : List ReportView) × AreReports lines reports
      × Wrote sink old new result (races_text names reports) × IfOk result (λ has. has ≡ has_races reports)
