-- The races of a schedule that are written if only those are wanted that may be luck: those by `any`.
use Rattle.std.specs.Prelude.{◌≡◌, ℕ, Bool, true, false, List, Result, Ok, Err}
use Rattle.chart.specs.declared.instance.EventNo.{EventNo}
use Rattle.closure.specs.Faults.{place_of}
use Rattle.cmd_base.specs.Contents.{Named, is_schedule}
use Rattle.cmd_base.specs.Statuses.{status_in}
use Rattle.cmd_base.specs.Texts.{OfFile}
use Rattle.cmd_base.specs.declared.error.ProgramError.TheVariants as errors
use Rattle.cmd_base.specs.declared.source.Source.{Source}
use Rattle.cmd_base.specs.declared.source.Source.TheVariants.{Run, Written}
use Rattle.cmd_base.specs.declared.columns.error.ColumnError.{ColumnError}
use Rattle.cmd_base.specs.declared.columns.error.ColumnError.TheVariants.{Program}
use Rattle.texts.specs.Outs.{Sink}
use Rattle.schedule.specs.Outcomes.Outcomes.{OutcomeView}
use Rattle.cmd_races.specs.Judging.{ShowsJudged}
use Rattle.cmd_races.specs.Showing.{IsShownOf}
use Rattle.cmd_races.specs.declared.shown_file.ShownFile.{ShownFile}
use Rattle.cmd_races.specs.declared.judging.LuckWanted.{LuckWanted}
use Rattle.cmd_races.specs.declared.showing.Wanted.{Wanted}
use Rattle.cmd_base.specs.declared.status.Status.{Status}
use Rattle.race_verdicts.specs.declared.verdict.Verdict.{Verdict}
use Rattle.races_text.specs.declared.judged.summary.RaceSummary.{RaceSummary}
use Rattle.schedule.specs.Plans.{Plan}
use Rattle.cmd_races.specs.Schedules.Makers.{RunView}
use Rattle.cmd_races.specs.Schedules.Verdicts.{IsVerdict}

-- a replayed plan
abbrev pub run_of : Plan → OutcomeView → RunView
run_of plan o = record { commands = plan.commands; notes = o.notes; lines = o.chart }

-- this is the verdict of a race of its chart
abbrev pub verdict_in : RunView → EventNo → EventNo → Verdict → Type 0
verdict_in run r e verdict = IsVerdict run (place_of r) (place_of e) verdict

-- only the races that were luck or may have been; of a schedule these are those by `any`
abbrev pub luck_alone : Wanted → LuckWanted
luck_alone wanted = record { races = wanted; luck = true }

module _ {S : Type 0} (sink : S → Sink) where
  -- the races of a run by `any` were written. The status depends on whether there is one, since none is begun in the
  -- middle. Or they were refused
  abbrev pub ShowsLucky : RunView → S → S → Result Status ColumnError → Wanted → Named → Type 0
  ShowsLucky run old new (Ok status) wanted named = (summary : RaceSummary) × ShowsJudged sink (verdict_in run) old new (Ok summary) (luck_alone wanted) named
      × (status ≡ status_in summary.shown)
  ShowsLucky run old new (Err error) wanted named = ShowsJudged sink (verdict_in run) old new (Err error) (luck_alone wanted) named

  -- the races of the run by `any` were written, or refused; for a chart luck isn't known
  abbrev pub ShowsRun : S → S → Result Status ColumnError → Wanted → Source → Type 0
  ShowsRun old new done wanted (Run schedule outcome) =
      ShowsLucky (run_of schedule.now outcome) old new done wanted (outcome.names, outcome.chart)
  ShowsRun old new done wanted (Written named) = (done ≡ Err (Program errors.Usage)) × (new ≡ old)

  -- the answer depends on whether the file is a schedule: for any other file luck is refused, whatever it contains
  abbrev pub ShowsBy : Bool → S → S → Wanted → List ℕ → Result ShownFile ColumnError → Type 0
  ShowsBy true old new wanted bytes done =
      OfFile Program (IsShownOf (λ source done. ShowsRun old new done wanted source)) old new bytes done
  ShowsBy false old new wanted bytes done = (done ≡ Err (Program errors.Usage)) × (new ≡ old)

  -- the races of the schedule by `any` were written; or nothing was written, if the bytes are no schedule or have a
  -- fault
  abbrev pub ShowsLuck : S → S → Wanted → List ℕ → Result ShownFile ColumnError → Type 0
  ShowsLuck old new wanted bytes done = ShowsBy (is_schedule bytes) old new wanted bytes done
