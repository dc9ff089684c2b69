-- The list of a recording's races (this project's profile): that of its chart, with the word of its verdict for each
-- range. It may list only what was luck or may have been.
use Rattle.std.specs.Prelude.{◌≡◌, ℕ, Bool, List, [], ◌∷◌, ◌++◌, Contains, Result, Ok, Err, IfOk, if◌then◌else◌}
use Rattle.std.specs.List.{flat_map, list_any}
use Rattle.chart.specs.declared.event.Event.{Event}
use Rattle.chart.specs.declared.instance.EventNo.{EventNo}
use Rattle.chart.specs.Charts.{LineView, chart_lines}
use Rattle.chart.specs.Reports.{ReportView, AreReports}
use Rattle.texts.specs.Outs.{Sink}
use Rattle.texts.specs.Writing.{Adds, Wrote}
use Rattle.texts.specs.declared.text_buffer.TextBuffer.{TextBuffer}
use Rattle.race_verdicts.specs.declared.verdict.Verdict.{Verdict}
use Rattle.shown_races.specs.Kept.{kept_events}
use Rattle.races_text.specs.Named.Listing.{Manner, is_asked, manner_of}
use Rattle.shown_races.specs.Selected.{AreSelected}
use Rattle.races_text.specs.Named.Words.{word_text}
use Rattle.races_text.specs.declared.named.listing.Form.{Form}
use Rattle.races_text.specs.declared.named.listing.Form.TheVariants.{Plain, Json}
use Rattle.races_text.specs.declared.named.words.Word.TheVariants.{EndObject}
use Rattle.races_text.specs.Judged.JsonText.{front_text as json_front, next_text as json_next}
use Rattle.races_text.specs.Judged.Parts.{AreParts, HaveBegun, is_shown, shown_parts, has_parts}
use Rattle.races_text.specs.Judged.PlainText.{line_text}
use Rattle.races_text.specs.Judged.Summaries.{claims_parts}
use Rattle.races_text.specs.declared.judged.part.Part.{Part}
use Rattle.races_text.specs.declared.judged.listing.VerdictQuery.{VerdictQuery}
use Rattle.races_text.specs.declared.judged.summary.RaceSummary.{RaceSummary}

-- The text of the ranges of a receive, in a form.

-- the first range
abbrev pub first_text : Form → List (List ℕ) → List Event → EventNo → Part → List ℕ
first_text Plain names events receive p = line_text names events receive p
first_text Json names events receive p = json_front names events receive p

-- a later range
abbrev pub later_text : Form → List (List ℕ) → List Event → EventNo → Part → List ℕ
later_text Plain names events receive p = line_text names events receive p
later_text Json names events receive p = json_next events p

-- the end after the last range
abbrev pub end_text : Form → List ℕ
end_text Plain = []
end_text Json = word_text EndObject

-- all ranges, without the end
abbrev pub begun_text : Form → List (List ℕ) → List Event → EventNo → List Part → List ℕ
begun_text form names events receive [] = []
begun_text form names events receive (p ∷ parts) =
    first_text form names events receive p ++ flat_map (later_text form names events receive) parts

-- the end, if there are ranges
abbrev pub ended_text : Form → Bool → List ℕ
ended_text form has = if has then end_text form else []

abbrev pub parts_text : Form → List (List ℕ) → List Event → EventNo → List Part → List ℕ
parts_text form names events receive parts =
    begun_text form names events receive parts ++ ended_text form (has_parts parts)

-- the text that a part adds after the parts so far, if there are any
abbrev pub added_text : Form → List (List ℕ) → List Event → EventNo → Bool → Bool → Part → List ℕ
added_text form names events receive luck has p =
    if is_shown luck p then
    (if has then later_text form names events receive p else first_text form names events receive p)
    else []

-- The reports of a chart.

-- the receive and the earlier event are a race of the chart with these lines: one of its reports has them
pub record IsRaceIn (lines : List LineView) (r e : EventNo) : Type 0 where
  pub reports : List ReportView
  pub are : AreReports lines reports
  pub report : ReportView
  pub its : Contains reports report
  pub receive : report.receive ≡ r
  pub among : Contains report.earlier e

-- how races are listed, and whether only those that were luck or may have been
pub record LuckManner : Type 0 where
  pub races : Manner
  pub luck : Bool

abbrev pub luck_manner : {V : Type 0} → VerdictQuery V → LuckManner
luck_manner query = record { races = manner_of query.query; luck = query.luck }

-- the ranges of a receive
pub record PartedReport : Type 0 where
  pub receive : EventNo
  pub parts : List Part

-- the earlier events of a report that are listed, if its instance is one of the query's
abbrev pub selected_events : Manner → List LineView → ReportView → List EventNo
selected_events manner lines report =
    if is_asked manner report then kept_events (chart_lines lines report.receive.instance) manner.receives report.earlier
    else []

-- the text of the shown ranges of a receive
abbrev pub report_text : LuckManner → List (List ℕ) → List LineView → PartedReport → List ℕ
report_text manner names lines parted =
    parts_text manner.races.form names (chart_lines lines parted.receive.instance) parted.receive
    (shown_parts manner.luck parted.parts)

-- a range of the receive is shown
abbrev pub shows_parts : LuckManner → PartedReport → Bool
shows_parts manner parted = has_parts (shown_parts manner.luck parted.parts)

-- the text of all receives
abbrev pub luck_text : LuckManner → List (List ℕ) → List LineView → List PartedReport → List ℕ
luck_text manner names lines parted = flat_map (report_text manner names lines) parted

abbrev pub shows_luck : LuckManner → List PartedReport → Bool
shows_luck manner parted = list_any (shows_parts manner) parted

-- there is a race, even if it isn't shown
abbrev pub has_races : List PartedReport → Bool
has_races parted = list_any (λ p. has_parts p.parts) parted

-- a race is claimed, which means that it isn't begun in the middle
abbrev pub claims_some : List PartedReport → Bool
claims_some parted = list_any (λ p. claims_parts p.parts) parted

-- the summary of all receives
abbrev pub summary_of : LuckManner → List PartedReport → RaceSummary
summary_of manner parted = record { shown = shows_luck manner parted; any = has_races parted; claimed = claims_some parted }

module _ (is : EventNo → EventNo → Verdict → Type 0) (manner : Manner) (lines : List LineView) where
  -- these are the ranges of a report
  pub record IsParted (report : ReportView) (parted : PartedReport) : Type 0 where
    pub receive : parted.receive ≡ report.receive
    pub are : AreParts (is report.receive) (selected_events manner lines report) parted.parts

  -- these are the ranges of a beginning of its events: those that were judged before a put failed
  pub record HasBegun (report : ReportView) (parted : PartedReport) : Type 0 where
    pub receive : parted.receive ≡ report.receive
    pub begun : HaveBegun (is report.receive) (selected_events manner lines report) parted.parts

  -- the ranges of all events if no put failed, and otherwise of a beginning of them
  abbrev pub HasParted : {T E : Type 0} → ReportView → Result T E → PartedReport → Type 0
  HasParted report (Ok x) parted = IsParted report parted
  HasParted report (Err e) parted = HasBegun report parted

  -- these are the ranges of each report
  pub data AreParted : List ReportView → List PartedReport → Type 0 where
    none : AreParted [] []
    more : {report : ReportView} {parted : PartedReport} {reports : List ReportView} {others : List PartedReport}
        → IsParted report parted → AreParted reports others → AreParted (report ∷ reports) (parted ∷ others)

  -- these are the ranges of the first reports; the last of them may have only the events that were judged before a put
  -- failed
  pub data HaveParted : List ReportView → List PartedReport → Type 0 where
    none : {reports : List ReportView} → HaveParted reports []
    last : {report : ReportView} {parted : PartedReport} {reports : List ReportView} → HasBegun report parted
        → HaveParted (report ∷ reports) (parted ∷ [])
    more : {report : ReportView} {parted : PartedReport} {reports : List ReportView} {others : List PartedReport}
        → IsParted report parted → HaveParted reports others → HaveParted (report ∷ reports) (parted ∷ others)

  -- the ranges of all reports if no put failed, and otherwise of the first ones
  abbrev pub ArePartedTo : {T E : Type 0} → List ReportView → Result T E → List PartedReport → Type 0
  ArePartedTo reports (Ok x) parted = AreParted reports parted
  ArePartedTo reports (Err e) parted = HaveParted reports parted

module _ {S E : Type 0} (sink : S → Sink) where
  -- the races of the chart with these lines were added to a text, with the verdicts that `is` allows. The summary
  -- states whether one is shown, whether there is one, and whether one is claimed
  abbrev pub HasAdded : TextBuffer S → TextBuffer S → (EventNo → EventNo → Verdict → Type 0) → LuckManner
      → List (List ℕ) → List LineView → Result RaceSummary E → Type 0
  HasAdded old new is manner names lines result = (reports : List ReportView) × (parted : List PartedReport)
      × AreSelected manner.races.completed lines reports × ArePartedTo is manner.races lines reports result parted
      × Adds sink old new result (luck_text manner names lines parted)
      × IfOk result (λ summary. summary ≡ summary_of manner parted)

  -- the same, but they were written
  abbrev pub HasWritten : S → S → (EventNo → EventNo → Verdict → Type 0) → LuckManner → List (List ℕ)
      → List LineView → Result RaceSummary E → Type 0
  HasWritten old new is manner names lines result = (reports : List ReportView) × (parted : List PartedReport)
      × AreSelected manner.races.completed lines reports × ArePartedTo is manner.races lines reports result parted
      × Wrote sink old new result (luck_text manner names lines parted)
      × IfOk result (λ summary. summary ≡ summary_of manner parted)
