-- The tasks of the program with the bytes of a file.
use Rattle.std.specs.Prelude.{◌≡◌, ℕ, List, length, Result, Ok, Err}
use Rattle.chart.specs.Charts.{chart_lines, IsPossible}
use Rattle.chart.specs.Reports.{ReportView, AreReports, has_races}
use Rattle.cmd_base.specs.Contents.{Named, IsRefused}
use Rattle.msc_text.specs.Reader.Reading.{chart_of}
use Rattle.texts.specs.Outs.{Sink}
use Rattle.msc_text.specs.RaceText.{races_text}
use Rattle.texts.specs.declared.fault.Fault.{Fault}
use Rattle.texts.specs.Writing.{Puts, Breaks}
use Rattle.schedule.specs.Plans.{Plan}
use Rattle.schedule.specs.Reading.{schedule_of}
use Rattle.schedule.specs.Interleaver.Interleavings.{drawn_of}
use Rattle.schedule.specs.Outcomes.Outcomes.{OutcomeView, IsOutcome}
use Rattle.schedule.specs.Outcomes.OutcomeText.{outcome_text}
use Rattle.cmd_base.specs.declared.status.Status.{Status}
use Rattle.cmd_base.specs.declared.error.ProgramError.{ProgramError}
use Rattle.cmd_base.specs.declared.error.ProgramError.TheVariants as errors
use Rattle.cmd_run.specs.declared.task.Task.{Task}
use Rattle.cmd_run.specs.declared.task.Task.TheVariants.{Replay, Random, Check}
use Rattle.cmd_base.specs.Answers.{Exit, program_exit, exit_of}
use Rattle.cmd_base.specs.Statuses.{status_in, status_exit}

-- the status of a task with these reports
abbrev pub status_of : List ReportView → Status
status_of reports = status_in (has_races reports)

-- the schedule of a text in the order that the seed draws, or the fault of the text
abbrev pub drawn_by : ℕ → Result Plan Fault → Result Plan Fault
drawn_by seed (Ok plan) = Ok (drawn_of plan seed)
drawn_by seed (Err fault) = Err fault

module _ {S : Type 0} (sink : S → Sink) where
  -- the text of the schedule's outcome was written; or a beginning of it, if a put failed; or nothing, if the text is
  -- no schedule, or if memory ran out
  abbrev pub Replays : S → S → Result Status ProgramError → Result Plan Fault → Type 0
  Replays old new (Ok status) reading = (plan : Plan) × (o : OutcomeView) × (reading ≡ Ok plan) × IsOutcome plan o
      × (status ≡ status_of o.reports) × Puts sink old new (outcome_text o)
  Replays old new (Err errors.Memory) reading = new ≡ old
  Replays old new (Err (errors.Text fault)) reading = (reading ≡ Err fault) × (new ≡ old)
  Replays old new (Err errors.Write) reading = (plan : Plan) × (o : OutcomeView) × (reading ≡ Ok plan) × IsOutcome plan o
      × Breaks sink old new (outcome_text o)
  Replays old new (Err _) reading = ⊥

  -- the races of the chart were written, which is possible; or a beginning of them, if a put failed; or nothing, if the
  -- text is no chart, or one that isn't possible, or if memory ran out
  abbrev pub Checks : S → S → Result Status ProgramError → Result Named Fault → Type 0
  Checks old new (Ok status) reading = (named : Named) × (reports : List ReportView) × (reading ≡ Ok named)
      × IsPossible (length named.1) (chart_lines named.1) × AreReports named.1 reports × (status ≡ status_of reports)
      × Puts sink old new (races_text named.0 reports)
  Checks old new (Err errors.Memory) reading = new ≡ old
  Checks old new (Err (errors.Text fault)) reading = (reading ≡ Err fault) × (new ≡ old)
  Checks old new (Err errors.Write) reading = (named : Named) × (reports : List ReportView) × (reading ≡ Ok named)
      × IsPossible (length named.1) (chart_lines named.1) × AreReports named.1 reports
      × Breaks sink old new (races_text named.0 reports)
  Checks old new (Err error) reading = (named : Named) × (reading ≡ Ok named) × IsRefused error named × (new ≡ old)

  -- the output of the task for the bytes
  abbrev pub Does : S → S → Task → List ℕ → Result Status ProgramError → Type 0
  Does old new Replay bytes done = Replays old new done (schedule_of bytes)
  Does old new (Random seed) bytes done = Replays old new done (drawn_by seed (schedule_of bytes))
  Does old new Check bytes done = Checks old new done (chart_of bytes)

abbrev pub task_exit : Result Status ProgramError → Exit
task_exit = exit_of status_exit program_exit
