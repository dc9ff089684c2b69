-- The list of a chart's races (this project's profile): for the instances of the query, in the order of their receives.
-- All races are listed, or those that remain if the instances run to completion.
use Rattle.std.specs.Prelude.{◌≡◌, ℕ, Bool, List, [], length, nat_eq, nat_lt, Result, IfOk, if◌then◌else◌}
use Rattle.std.specs.List.{flat_map, list_any}
use Rattle.chart.specs.declared.event.Event.{Event}
use Rattle.chart.specs.declared.instance.EventNo.{EventNo}
use Rattle.chart.specs.declared.ranges.EventRange.{EventRange}
use Rattle.chart.specs.Charts.{LineView, chart_lines}
use Rattle.chart.specs.Reports.{ReportView}
use Rattle.texts.specs.Outs.{Sink}
use Rattle.texts.specs.Writing.{Adds, Wrote}
use Rattle.texts.specs.declared.text_buffer.TextBuffer.{TextBuffer}
use Rattle.races_text.specs.declared.named.listing.Form.{Form}
use Rattle.races_text.specs.declared.named.listing.RaceQuery.{RaceQuery}
use Rattle.races_text.specs.declared.named.listing.Form.TheVariants.{Plain, Json}
use Rattle.races_text.specs.Named.Kept.{kept_ranges}
use Rattle.shown_races.specs.Selected.{is_there, AreSelected}
use Rattle.races_text.specs.Named.PlainText.{lines_text}
use Rattle.races_text.specs.Named.JsonText.{object_text}

-- how races are listed: the form, whether only receives are shown as earlier events, the instances, and whether they
-- run to completion
pub record Manner : Type 0 where
  pub form : Form
  pub receives : Bool
  pub only : List ℕ
  pub completed : Bool

abbrev pub manner_of : RaceQuery → Manner
manner_of selected = record {
  form = selected.form;
  receives = selected.receives;
  only = selected.only.now;
  completed = is_there selected.completion;
}

-- the ranges of a receive's races, in this form
abbrev pub ranges_text : Form → List (List ℕ) → List Event → EventNo → List EventRange → List ℕ
ranges_text Plain names events receive ranges = lines_text names events receive ranges
ranges_text Json names events receive ranges = object_text names events receive ranges

-- its instance is one of the query's
abbrev pub is_asked : Manner → ReportView → Bool
is_asked manner report = list_any (nat_eq report.receive.instance) manner.only

-- the shown ranges of a report
abbrev pub shown_of : Manner → List LineView → ReportView → List EventRange
shown_of manner lines report =
    if is_asked manner report then kept_ranges (chart_lines lines report.receive.instance) manner.receives report.earlier
    else []

-- the text of a report
abbrev pub report_text : Manner → List (List ℕ) → List LineView → ReportView → List ℕ
report_text manner names lines report =
    ranges_text manner.form names (chart_lines lines report.receive.instance) report.receive
    (shown_of manner lines report)

-- the text of all these reports
abbrev pub races_text : Manner → List (List ℕ) → List LineView → List ReportView → List ℕ
races_text manner names lines reports = flat_map (report_text manner names lines) reports

-- there is a range
abbrev pub has_ranges : List EventRange → Bool
has_ranges ranges = nat_lt 0 (length ranges)

-- a race is shown
abbrev pub shows_races : Manner → List LineView → List ReportView → Bool
shows_races manner lines reports = list_any (λ report. has_ranges (shown_of manner lines report)) reports

module _ {S E : Type 0} (sink : S → Sink) where
  -- the races of the chart with these lines were added to a text, and the result is whether one is shown
  abbrev pub HasAdded : TextBuffer S → TextBuffer S → Manner → List (List ℕ) → List LineView → Result Bool E → Type 0
  HasAdded old new manner names lines result = (reports : List ReportView)
      × AreSelected manner.completed lines reports × Adds sink old new result (races_text manner names lines reports)
      × IfOk result (λ has. has ≡ shows_races manner lines reports)

  -- the same, but they were written
  abbrev pub HasWritten : S → S → Manner → List (List ℕ) → List LineView → Result Bool E → Type 0
  HasWritten old new manner names lines result = (reports : List ReportView)
      × AreSelected manner.completed lines reports × Wrote sink old new result (races_text manner names lines reports)
      × IfOk result (λ has. has ≡ shows_races manner lines reports)
