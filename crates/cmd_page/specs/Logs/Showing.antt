-- The page of a log.
use Rattle.std.specs.Prelude.{◌≡◌, ◌⊎◌, List, ℕ, Bool, true, false, Some, Result, Ok, Err}
use Rattle.cmd_base.specs.Answers.{Exit, refusal, exit_of}
use Rattle.cmd_base.specs.Contents.{Named}
use Rattle.cmd_base.specs.Refusals as programs
use Rattle.cmd_base.specs.declared.error.ProgramError.{ProgramError}
use Rattle.cmd_base.specs.declared.error.ProgramError.TheVariants.{Memory}
use Rattle.cmd_import_log.specs.Answers.Claims.{claims_text}
use Rattle.cmd_import_log.specs.Imported.{IsRefusalOf}
use Rattle.cmd_import_log.specs.Options.{OptionsView}
use Rattle.cmd_import_log.specs.Recording.{lent_of, IsRecordingOf}
use Rattle.cmd_import_log.specs.Refusals.{log_refusal_text, one_end_text}
use Rattle.cmd_import_log.specs.declared.recording.LogRecording.{LogRecording}
use Rattle.cmd_page.specs.declared.logs.showing.ShownPage.{ShownPage}
use Rattle.cmd_page.specs.declared.logs.showing.PageError.{PageError}
use Rattle.cmd_page.specs.declared.logs.showing.PageError.TheVariants.{Log, OneEnd, Page}
use Rattle.cmd_page.specs.declared.marks.pairs.RaceRange.{RaceRange}
use Rattle.msc_text.specs.ChartText.{chart_text}
use Rattle.race_verdicts.specs.Recordings.{RecordingView}
use Rattle.texts.specs.Outs.{Sink}
use Rattle.cmd_page.specs.Marks.Judging.{AreJudgedRaces, claims_none}
use Rattle.cmd_page.specs.Showing.{ShowsText, titled, judged}

module _ {S : Type 0} (sink : S → Sink) where
  -- the output of `mscview page` for the chart's text was written, with these races, and the answer states whether none
  -- of them is claimed
  abbrev pub ShowsRaces : S → S → List ℕ → Named → List RaceRange → Result Bool ProgramError → Type 0
  ShowsRaces old new title named races (Ok is_unclaimed) = ShowsText sink old new (judged title races) (chart_text named.0 named.1) (Ok tt)
      × (is_unclaimed ≡ claims_none races)
  ShowsRaces old new title named races (Err error) = ShowsText sink old new (judged title races) (chart_text named.0 named.1) (Err error)

  -- If luck is known, the races are those of the recording by their verdicts. Or nothing was written, since memory ran
  -- out.
  abbrev pub ShowsJudged : S → S → List ℕ → Named → RecordingView → Result Bool ProgramError → Type 0
  ShowsJudged old new title named rec done = ((done ≡ Err Memory) × (new ≡ old))
      ⊎ ((races : List RaceRange) × AreJudgedRaces named.1 rec races × ShowsRaces old new title named races done)

  -- if it isn't: the output of `mscview page` for the chart's text was written, and it isn't known whether a race is
  -- claimed
  abbrev pub ShowsOther : S → S → List ℕ → Named → Result Bool ProgramError → Type 0
  ShowsOther old new title named (Ok is_unclaimed) = ShowsText sink old new (titled title) (chart_text named.0 named.1) (Ok tt) × (is_unclaimed ≡ false)
  ShowsOther old new title named (Err error) = ShowsText sink old new (titled title) (chart_text named.0 named.1) (Err error)

  abbrev pub ShowsBy : Bool → S → S → List ℕ → Named → RecordingView → Result Bool ProgramError → Type 0
  ShowsBy true old new title named rec done = ShowsJudged old new title named rec done
  ShowsBy false old new title named rec done = ShowsOther old new title named done

  abbrev pub ShowsRecording : S → S → List ℕ → LogRecording → Result Bool ProgramError → Type 0
  ShowsRecording old new title r done = ShowsBy r.is_known old new title (r.imported.diagnostics.names, r.imported.chart) (lent_of r) done

  -- the page of the texts' recording was written, and the warnings are about its chart; or the page is refused.
  -- Nothing was written if the texts are refused, if the log has one end of each message, or if memory ran out
  abbrev pub ShowsLog : S → S → OptionsView → List (List ℕ) → List ℕ → Result ShownPage PageError → Type 0
  ShowsLog old new o texts title (Ok shown) = (r : LogRecording) × IsRecordingOf o texts r × (r.imported.diagnostics.is_one_ended ≡ false)
      × (shown.diagnostics ≡ r.imported.diagnostics) × ShowsRecording old new title r (Ok shown.is_unclaimed)
  ShowsLog old new o texts title (Err (Log error)) = IsRefusalOf o texts error × (new ≡ old)
  ShowsLog old new o texts title (Err (OneEnd diagnostics)) = (r : LogRecording) × IsRecordingOf o texts r × (r.imported.diagnostics.is_one_ended ≡ true)
      × (diagnostics ≡ r.imported.diagnostics) × (new ≡ old)
  ShowsLog old new o texts title (Err (Page error)) = (r : LogRecording) × IsRecordingOf o texts r × (r.imported.diagnostics.is_one_ended ≡ false)
      × ShowsRecording old new title r (Err error)

-- the line of a refusal
abbrev pub page_error_text : List (List ℕ) → PageError → List ℕ
page_error_text files (Log error) = log_refusal_text files error
page_error_text files (OneEnd diagnostics) = one_end_text diagnostics
page_error_text files (Page error) = programs.refusal_text error

-- the answer after a page was written: the warnings of an import, and then whether no race is claimed. `files` has the
-- names of several files, and is empty for one
abbrev pub shown_exit : List (List ℕ) → ShownPage → Exit
shown_exit files shown = record { status = 0; diagnostics = Some (claims_text files shown.diagnostics shown.is_unclaimed) }

-- the answer after a page was written or refused
abbrev pub page_exit : List (List ℕ) → Result ShownPage PageError → Exit
page_exit files = exit_of (shown_exit files) (λ error. refusal (page_error_text files error))
