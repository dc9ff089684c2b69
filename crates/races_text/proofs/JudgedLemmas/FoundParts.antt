-- The ranges of reports that are listed while they are found.
use Rattle.std.proofs.Common.{◌≡◌, ℕ, List, [], ◌∷◌, ◌++◌, All, Contains, Bool, true, false, cond, Result, Ok, Err, get_or, refl}
use Rattle.std.proofs.lemmas.List.Elements.{All-nil, All-filter, All-contains_itself}
use Rattle.chart.specs.declared.event.Event.{Event}
use Rattle.std.specs.Result.{is_err}
use Rattle.chart.specs.declared.instance.EventNo.{EventNo}
use Rattle.chart.specs.Charts.{LineView, chart_lines}
use Rattle.chart.specs.Reports.{ReportView, AreReports}
use Rattle.race_verdicts.specs.declared.verdict.Verdict.{Verdict}
use Rattle.races_text.specs.Named.Listing.{Manner, is_asked}
use Rattle.shown_races.specs.Kept.{is_kept, is_later, later_than, kept_events}
use Rattle.races_text.specs.declared.judged.part.Part.{Part}
use Rattle.races_text.specs.Judged.Parts.{Judges}
use Rattle.races_text.specs.Judged.Listing.{PartedReport, IsParted, HasBegun, HasParted, AreParted, HaveParted, ArePartedTo, IsRaceIn, selected_events}
use Rattle.races_text.specs.Judged.Listing.AreParted.{none, more}
use Rattle.races_text.specs.Judged.Listing.HaveParted.{none as none_begun, last as last_begun, more as more_begun}

-- the listed events are among the earlier ones
selected_if : (P : EventNo → Type 0) (b : Bool) (events : List Event) (only : Bool) (earlier : List EventNo) → All P earlier → All P (cond b (kept_events events only earlier) [])
selected_if P true events only earlier all = All-filter (is_kept events only) P earlier all
selected_if P false events only earlier all = All-nil P

pub all_selected : (P : EventNo → Type 0) (manner : Manner) (lines : List LineView) (receive : EventNo) (passed : ℕ) (earlier : List EventNo) → All P earlier
    → All P (selected_events manner lines (record { receive = receive; earlier = later_than passed earlier }))
all_selected P manner lines receive passed earlier all =
    selected_if P (is_asked manner (record { receive = receive; earlier = later_than passed earlier })) (chart_lines lines receive.instance) manner.receives (later_than passed earlier)
    (All-filter (is_later passed) P earlier all)

-- each earlier event of a report is a race with its receive
pub are_races : (race : EventNo → EventNo → Type 0) (lines : List LineView) → ((r e : EventNo) → IsRaceIn lines r e → race r e) → (reports : List ReportView) → AreReports lines reports → (report : ReportView)
    → Contains reports report → All (race report.receive) report.earlier
are_races race lines each reports are report its =
    λ k d within. each report.receive (get_or report.earlier k d)
    (record { reports = reports; are = are; report = report; its = its; receive = refl; among = All-contains_itself report.earlier k d within })

module _ (is : EventNo → EventNo → Verdict → Type 0) (manner : Manner) (lines : List LineView) where
  -- a receive's ranges are those of its report
  pub parted_so : {T E : Type 0} (report : ReportView) (r : Result T E) (parts : List Part) → Judges (is report.receive) (selected_events manner lines report) r parts
      → HasParted is manner lines report r (record { receive = report.receive; parts = parts })
  parted_so report (Ok x) parts are = record { receive = refl; are = are }
  parted_so report (Err e) parts are = record { receive = refl; begun = are }

  pub parted_push : {reports : List ReportView} {parted : List PartedReport} (report : ReportView) (p : PartedReport) → AreParted is manner lines reports parted → IsParted is manner lines report p
      → AreParted is manner lines (reports ++ report ∷ []) (parted ++ p ∷ [])
  parted_push report p none last = more last none
  parted_push report p (more first rest) last = more first (parted_push report p rest last)

  -- a put fails in the last report
  pub parted_last : {reports : List ReportView} {parted : List PartedReport} (report : ReportView) (p : PartedReport) (others : List ReportView) → AreParted is manner lines reports parted
      → HasBegun is manner lines report p → HaveParted is manner lines ((reports ++ report ∷ []) ++ others) (parted ++ p ∷ [])
  parted_last report p others none last = last_begun last
  parted_last report p others (more first rest) last = more_begun first (parted_last report p others rest last)

  -- a put fails after the last report
  pub parted_whole : {reports : List ReportView} {parted : List PartedReport} → AreParted is manner lines reports parted → HaveParted is manner lines reports parted
  parted_whole none = none_begun
  parted_whole (more first rest) = more_begun first (parted_whole rest)

  pub parted_early : {T E : Type 0} {reports : List ReportView} {parted : List PartedReport} (r : Result T E) → is_err r ≡ true → HaveParted is manner lines reports parted → ArePartedTo is manner lines reports r parted
  parted_early (Ok x) failed are = cc
  parted_early (Err e) failed are = are
