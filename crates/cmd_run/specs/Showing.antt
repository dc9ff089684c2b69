-- The output of the program for a run of a schedule on threads.
use Rattle.std.specs.Prelude.{◌≡◌, ℕ, List, None, Result, Ok, Err}
use Rattle.instances.specs.declared.outcome.Run.{Run}
use Rattle.instances.specs.declared.outcome.RunError.{RunError}
use Rattle.instances.specs.declared.outcome.RunError.TheVariants as causes
use Rattle.texts.specs.Outs.{Sink}
use Rattle.texts.specs.declared.fault.Fault.{Fault}
use Rattle.texts.specs.Writing.{Puts, Breaks}
use Rattle.schedule_threads.specs.OwnScripts.{AreScriptRuns, IsNoTurns}
use Rattle.schedule_threads.specs.RunOutcomes.{RunView, IsRunOutcome}
use Rattle.schedule_threads.specs.RunText.{run_text}
use Rattle.schedule.specs.Plans.{Plan}
use Rattle.schedule.specs.Reading.{schedule_of}
use Rattle.cmd_base.specs.declared.error.ProgramError.{ProgramError}
use Rattle.cmd_base.specs.declared.error.ProgramError.TheVariants as errors
use Rattle.cmd_base.specs.declared.status.Status.{Status}
use Rattle.cmd_base.specs.Answers.{Exit, program_exit, exit_of}
use Rattle.cmd_base.specs.Statuses.{status_exit}
use Rattle.cmd_run.specs.declared.showing.RunShowError.{RunShowError}
use Rattle.cmd_run.specs.declared.showing.RunShowError.TheVariants.{Program, InvalidInput}
use Rattle.cmd_run.specs.Tasks.{status_of}

module _ {S : Type 0} (sink : S → Sink) where
  -- the text of the run's outcome was written; or a beginning of it, if a put failed; or nothing, if memory ran out,
  -- here or in the run
  abbrev pub Shows : Plan → Run → S → S → Result Status ProgramError → Type 0
  Shows plan run old new (Ok status) = (o : RunView) × IsRunOutcome plan run o
      × (status ≡ status_of o.outcome.reports) × Puts sink old new (run_text o)
  Shows plan run old new (Err errors.Memory) = new ≡ old
  Shows plan run old new (Err errors.Write) = (o : RunView) × IsRunOutcome plan run o
      × Breaks sink old new (run_text o)
  Shows plan run old new (Err _) = ⊥

  -- The outcome of a run of the schedule's own scripts was written, in which each instance executes its own commands in
  -- their order. Nothing was written if the text is no schedule, if no run may have this number of turns, or if memory
  -- ran out.
  abbrev pub RunsScripts : ℕ → S → S → Result Status ProgramError → Result Plan Fault → Type 0
  RunsScripts turns old new (Ok status) reading = (plan : Plan) × (run : Run) × (reading ≡ Ok plan)
      × AreScriptRuns plan turns run × Shows plan run old new (Ok status)
  RunsScripts turns old new (Err errors.Memory) reading = new ≡ old
  RunsScripts turns old new (Err (errors.Text fault)) reading = (reading ≡ Err fault) × (new ≡ old)
  RunsScripts turns old new (Err errors.Usage) reading = IsNoTurns turns × (new ≡ old)
  RunsScripts turns old new (Err errors.Write) reading = (plan : Plan) × (run : Run) × (reading ≡ Ok plan)
      × AreScriptRuns plan turns run × Shows plan run old new (Err errors.Write)
  RunsScripts turns old new (Err _) reading = ⊥

  -- the output for the bytes of a schedule whose instances run on threads
  abbrev pub DoesOnThreads : S → S → ℕ → List ℕ → Result Status ProgramError → Type 0
  DoesOnThreads old new turns bytes done = RunsScripts turns old new done (schedule_of bytes)

  -- The outcome of a run was written. Nothing was written for a run that wasn't made, because memory ran out, or
  -- because the posts, behaviours or turns didn't fit.
  abbrev pub ShowsRun : {P B : Type 0} → S → S → Plan → Result Run (RunError P B) → Result Status RunShowError → Type 0
  ShowsRun old new plan (Ok run) (Ok status) = Shows plan run old new (Ok status)
  ShowsRun old new plan (Ok run) (Err (Program error)) = Shows plan run old new (Err error)
  ShowsRun old new plan (Err causes.Memory) (Err (Program errors.Memory)) = new ≡ old
  ShowsRun old new plan (Err (causes.InvalidInput posts behaviours)) (Err InvalidInput) = new ≡ old
  ShowsRun old new plan ran shown = ⊥

-- the exit after a run that isn't shown: F25 is never printed
abbrev pub run_show_error_exit : RunShowError → Exit
run_show_error_exit (Program error) = program_exit error
run_show_error_exit InvalidInput = record { status = 2; diagnostics = None }

abbrev pub shown_exit : Result Status RunShowError → Exit
shown_exit = exit_of status_exit run_show_error_exit
