-- The races of a log that are written, with their words.
use Rattle.std.specs.Prelude.{◌≡◌, List, ℕ, Bool, true, false, Some, Result, Ok, Err, if◌then◌else◌}
use Rattle.cmd_base.specs.Answers.{Exit, refusal, exit_of}
use Rattle.cmd_base.specs.Contents.{Named}
use Rattle.cmd_base.specs.Columns.Answers.{refusal_text}
use Rattle.cmd_base.specs.declared.columns.error.ColumnError.{ColumnError}
use Rattle.cmd_base.specs.Statuses.{code_of}
use Rattle.cmd_import_log.specs.Answers.Claims.{claims_text}
use Rattle.cmd_import_log.specs.Imported.{IsRefusalOf}
use Rattle.cmd_import_log.specs.Options.{OptionsView}
use Rattle.cmd_import_log.specs.Recording.{lent_of, IsRecordingOf}
use Rattle.cmd_import_log.specs.Refusals.{log_refusal_text, one_end_text}
use Rattle.cmd_import_log.specs.declared.recording.LogRecording.{LogRecording}
use Rattle.texts.specs.Outs.{Sink}
use Rattle.cmd_races.specs.Judging.{ShowsJudged, ShowsUnknown}
use Rattle.cmd_races.specs.declared.judging.LuckWanted.{LuckWanted}
use Rattle.cmd_base.specs.declared.status.Status.{Status}
use Rattle.cmd_base.specs.declared.status.Status.TheVariants.{NoRaces, Races, NotKnown}
use Rattle.race_verdicts.specs.Recordings.{RecordingView}
use Rattle.races_text.specs.Judged.LogVerdicts.{verdict_in}
use Rattle.races_text.specs.Judged.Summaries.{claims_none}
use Rattle.races_text.specs.declared.judged.summary.RaceSummary.{RaceSummary}
use Rattle.cmd_races.specs.declared.logs.known.ShownRaces.{ShownRaces}
use Rattle.cmd_races.specs.declared.logs.showing.Shown.{Shown}
use Rattle.cmd_races.specs.declared.logs.showing.RaceShowError.{RaceShowError}
use Rattle.cmd_races.specs.declared.logs.showing.RaceShowError.TheVariants as errors

-- the exit status is 1 if a race is shown. If none is, it is 3 if there are selected races and each is begun in the
-- middle, and otherwise 0
abbrev pub status_of_summary : RaceSummary → Status
status_of_summary summary = if summary.shown then Races else (if claims_none summary then NotKnown else NoRaces)

-- the answer for races for which luck is known
abbrev pub shown_of_summary : RaceSummary → ShownRaces
shown_of_summary summary = record { status = status_of_summary summary; is_unclaimed = claims_none summary }

module _ {S : Type 0} (sink : S → Sink) where
  -- if luck is known: the races were written with the words of their verdicts, and the summary states whether none is
  -- claimed; or they are refused
  abbrev pub ShowsKnown : S → S → Result ShownRaces ColumnError → LuckWanted → Named → RecordingView → Type 0
  ShowsKnown old new (Ok races) wanted named rec = (summary : RaceSummary) × ShowsJudged sink (verdict_in named.1 rec) old new (Ok summary) wanted named
      × (races ≡ shown_of_summary summary)
  ShowsKnown old new (Err error) wanted named rec = ShowsJudged sink (verdict_in named.1 rec) old new (Err error) wanted named

  -- if it isn't: they were written, and it isn't known whether one is claimed; or they are refused
  abbrev pub ShowsOther : S → S → Result ShownRaces ColumnError → LuckWanted → Named → Type 0
  ShowsOther old new (Ok races) wanted named = ShowsUnknown sink wanted.luck old new (Ok races.status) wanted named × (races.is_unclaimed ≡ false)
  ShowsOther old new (Err error) wanted named = ShowsUnknown sink wanted.luck old new (Err error) wanted named

  abbrev pub ShowsBy : Bool → S → S → Result ShownRaces ColumnError → LuckWanted → Named → RecordingView → Type 0
  ShowsBy true old new result wanted named rec = ShowsKnown old new result wanted named rec
  ShowsBy false old new result wanted named rec = ShowsOther old new result wanted named

  -- the races of a recording were written, or refused
  abbrev pub ShowsRecording : S → S → Result ShownRaces ColumnError → LuckWanted → LogRecording → Type 0
  ShowsRecording old new result wanted r =
      ShowsBy r.is_known old new result wanted (r.imported.diagnostics.names, r.imported.chart) (lent_of r)

  -- the races of the texts' recording were written, and the warnings are about its chart; or the races are refused.
  -- Nothing was written if the texts are refused, if the log has one end of each message, or if memory ran out
  abbrev pub ShowsLog : S → S → OptionsView → List (List ℕ) → LuckWanted → Result Shown RaceShowError → Type 0
  ShowsLog old new o texts wanted (Ok shown) = (r : LogRecording) × IsRecordingOf o texts r × (r.imported.diagnostics.is_one_ended ≡ false)
      × (shown.diagnostics ≡ r.imported.diagnostics) × ShowsRecording old new (Ok shown.races) wanted r
  ShowsLog old new o texts wanted (Err (errors.Log error)) = IsRefusalOf o texts error × (new ≡ old)
  ShowsLog old new o texts wanted (Err (errors.OneEnd diagnostics)) = (r : LogRecording) × IsRecordingOf o texts r × (r.imported.diagnostics.is_one_ended ≡ true)
      × (diagnostics ≡ r.imported.diagnostics) × (new ≡ old)
  ShowsLog old new o texts wanted (Err (errors.Races error)) = (r : LogRecording) × IsRecordingOf o texts r × (r.imported.diagnostics.is_one_ended ≡ false)
      × ShowsRecording old new (Err error) wanted r

-- the warnings of an import, and then whether none of the races is claimed
abbrev pub shown_text : List (List ℕ) → Shown → List ℕ
shown_text files shown = claims_text files shown.diagnostics shown.races.is_unclaimed

-- the answer after races were written. `files` has the names of several files, and is empty for one
abbrev pub shown_exit : List (List ℕ) → Shown → Exit
shown_exit files shown = record { status = code_of shown.races.status; diagnostics = Some (shown_text files shown) }

-- the line of a refusal
abbrev pub race_show_error_text : List (List ℕ) → RaceShowError → List ℕ
race_show_error_text files (errors.Log error) = log_refusal_text files error
race_show_error_text files (errors.OneEnd diagnostics) = one_end_text diagnostics
race_show_error_text files (errors.Races error) = refusal_text error

-- the answer after races were written or refused
abbrev pub races_exit : List (List ℕ) → Result Shown RaceShowError → Exit
races_exit files = exit_of (shown_exit files) (λ error. refusal (race_show_error_text files error))
