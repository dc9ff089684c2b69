-- The races of a log that were luck, and what is written of a log whose races of luck are mended (this project's profile).
use Rattle.std.specs.Prelude.{◌≡◌, ◌≢◌, ℕ, ◌<◌, ◌++◌, Bool, true, false, List, [], ◌∷◌, length}
use Rattle.chart.specs.declared.instance.EventNo.{EventNo}
use Rattle.chart.specs.Charts.{LineView}
use Rattle.chart.specs.Reports.{ReportView, AreReports}
use Rattle.cmd_base.specs.Answers.{Answers}
use Rattle.cmd_base.specs.declared.error.ProgramError.TheVariants as errors
use Rattle.cmd_base.specs.Refusals.{Tried, refusal_text}
use Rattle.cmd_import_log.specs.Answers.Claims.{claims_text}
use Rattle.cmd_import_log.specs.Imported.{IsRefusalOf}
use Rattle.cmd_import_log.specs.Options.{OptionsView}
use Rattle.cmd_import_log.specs.Recording.{lent_of, IsRecordingOf}
use Rattle.cmd_import_log.specs.Refusals.{log_refusal_text, one_end_text}
use Rattle.cmd_import_log.specs.declared.error.LogImportError.{LogImportError}
use Rattle.cmd_import_log.specs.declared.recording.LogRecording.{LogRecording}
use Rattle.race_verdicts.specs.Recordings.{RecordingView}
use Rattle.race_verdicts.specs.declared.verdict.Verdict.{Verdict}
use Rattle.race_verdicts.specs.declared.verdict.Verdict.TheVariants.{Luck}
use Rattle.races_text.specs.Judged.LogVerdicts.{verdict_in}
use Rattle.texts.specs.Outs.{Sink}
use Rattle.cmd_mend.specs.Answers.{mend_all_exit}
use Rattle.cmd_mend.specs.Claims.{IsUnclaimed, known_status}
use Rattle.cmd_mend.specs.Showing.{lucky_of, ShowsAll}
use Rattle.cmd_mend.specs.declared.showing_all.WantedAll.{WantedAll}

-- of these earlier events of a receive, each of which has a verdict, those whose verdict is luck
pub data AreLucky (is : EventNo → Verdict → Type 0) : List EventNo → List EventNo → Type 0 where
  none : AreLucky is [] []
  luck : {e : EventNo} {events lucky : List EventNo} → is e Luck → AreLucky is events lucky → AreLucky is (e ∷ events) (e ∷ lucky)
  other : {e : EventNo} {events lucky : List EventNo} (verdict : Verdict) → is e verdict → verdict ≢ Luck → AreLucky is events lucky
      → AreLucky is (e ∷ events) lucky

-- a receive's report with only the races that were luck
pub record IsLuckOf (is : EventNo → EventNo → Verdict → Type 0) (report lucky : ReportView) : Type 0 where
  pub receive : lucky.receive ≡ report.receive
  pub earlier : AreLucky (is report.receive) report.earlier lucky.earlier

-- the same for several reports; those without such a race are left out
pub data AreLuckOf (is : EventNo → EventNo → Verdict → Type 0) : List ReportView → List ReportView → Type 0 where
  nothing : AreLuckOf is [] []
  more : {report lucky : ReportView} {reports others : List ReportView} → IsLuckOf is report lucky → 0 < length lucky.earlier
      → AreLuckOf is reports others → AreLuckOf is (report ∷ reports) (lucky ∷ others)
  without : {report : ReportView} {reports others : List ReportView} → AreLucky (is report.receive) report.earlier []
      → AreLuckOf is reports others → AreLuckOf is (report ∷ reports) others

-- one more event, if its pair was luck
abbrev pub AddsLuck : (EventNo → Verdict → Type 0) → EventNo → List EventNo → List EventNo → Type 0
AddsLuck is e old new = (events : List EventNo) → AreLucky is events old → AreLucky is (events ++ e ∷ []) new

-- one more report, if it has such a race
abbrev pub AddsReport : (EventNo → EventNo → Verdict → Type 0) → ReportView → List ReportView → List ReportView → Type 0
AddsReport is report old new = (reports : List ReportView) → AreLuckOf is reports old → AreLuckOf is (reports ++ report ∷ []) new

-- these are the reports of a recording's chart that have a race of luck, with only such races
abbrev pub IsLuck : List LineView → RecordingView → List ReportView → Type 0
IsLuck lines rec found = (reports : List ReportView) × AreReports lines reports × AreLuckOf (verdict_in lines rec) reports found

-- Standard output is known by `sink` before (`old`) and after (`new`), and standard error by `diagnostics`.
module _ {S V : Type 0} (sink : S → Sink) (old new : S) (diagnostics : V → Sink) (before after : V) where
  -- this line was printed, nothing was written, and the status is 2
  abbrev pub IsRefusedSo : List ℕ → ℕ → Type 0
  IsRefusedSo line status = (status ≡ 2) × Tried diagnostics before after line × (new ≡ old)

  -- The races of a recording that were luck were mended, after the warnings of the import were printed, and whether none
  -- of the races that are shown is claimed. If none is, the status isn't that nothing is left, but that it isn't known.
  abbrev pub MendsLuck : List (List ℕ) → WantedAll → LogRecording → ℕ → Type 0
  MendsLuck files wanted r status = (between : V) × (found : List ReportView) × (unclaimed : Bool) × (left : ℕ)
      × Tried diagnostics before between (claims_text files r.imported.diagnostics unclaimed)
      × IsLuck r.imported.chart (lent_of r) found × IsUnclaimed wanted.showing r.imported.chart (lent_of r) unclaimed
      × Answers (λ done. ShowsAll sink (lucky_of wanted.showing found) wanted.limit old new done (r.imported.diagnostics.names, r.imported.chart))
      mend_all_exit diagnostics between after left × (status ≡ known_status unclaimed left)

  -- What came of a log: it is refused, as by an import; it has one end of each message (F52); luck isn't known (G1);
  -- memory ran out; or its races of luck were mended.
  pub data MendsLog (files : List (List ℕ)) (options : OptionsView) (texts : List (List ℕ)) (wanted : WantedAll) (status : ℕ) : Type 0 where
    refused : (error : LogImportError) → IsRefusalOf options texts error → IsRefusedSo (log_refusal_text files error) status
        → MendsLog files options texts wanted status
    one_end : (r : LogRecording) → IsRecordingOf options texts r → r.imported.diagnostics.is_one_ended ≡ true
        → IsRefusedSo (one_end_text r.imported.diagnostics) status → MendsLog files options texts wanted status
    unknown : (r : LogRecording) → IsRecordingOf options texts r → r.imported.diagnostics.is_one_ended ≡ false → r.is_known ≡ false
        → IsRefusedSo (refusal_text errors.Usage) status → MendsLog files options texts wanted status
    memory : IsRefusedSo (refusal_text errors.Memory) status → MendsLog files options texts wanted status
    mended : (r : LogRecording) → IsRecordingOf options texts r → r.imported.diagnostics.is_one_ended ≡ false → r.is_known ≡ true
        → MendsLuck files wanted r status → MendsLog files options texts wanted status
