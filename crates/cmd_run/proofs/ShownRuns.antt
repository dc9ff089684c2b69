-- The output for a run of a schedule's own scripts.
use Rattle.std.proofs.Common.{◌≡◌, ℕ, List, Option, Result, Ok, Err}
use Rattle.instances.specs.declared.outcome.Run.{Run}
use Rattle.texts.specs.Outs.{Sink}
use Rattle.texts.specs.declared.fault.Fault.{Fault}
use Rattle.schedule_threads.specs.OwnScripts.{AreScriptRuns}
use Rattle.schedule.specs.Plans.{Plan}
use Rattle.cmd_base.specs.declared.error.ProgramError.{ProgramError}
use Rattle.cmd_base.specs.declared.error.ProgramError.TheVariants as errors
use Rattle.cmd_base.specs.declared.status.Status.{Status}
use Rattle.cmd_run.specs.Showing.{Shows, RunsScripts}

pub runs-shown : {S : Type 0} (sink : S → Sink) (plan : Plan) (run : Run) (turns : ℕ)
    (old new : S) (done : Result Status ProgramError) (reading : Result Plan Fault) → reading ≡ Ok plan
    → AreScriptRuns plan turns run → Shows sink plan run old new done
    → RunsScripts sink turns old new done reading
runs-shown sink plan run turns old new (Ok status) reading is runs shows = (plan, run, is, runs, shows)
runs-shown sink plan run turns old new (Err errors.Memory) reading is runs shows = shows
runs-shown sink plan run turns old new (Err errors.Write) reading is runs shows = (plan, run, is, runs, shows)
runs-shown sink plan run turns old new (Err errors.Usage) reading is runs shows = absurd shows
runs-shown sink plan run turns old new (Err errors.File) reading is runs shows = absurd shows
runs-shown sink plan run turns old new (Err (errors.Text fault)) reading is runs shows = absurd shows
runs-shown sink plan run turns old new (Err (errors.ReceiveWithoutSend instance index)) reading is runs shows = absurd shows
runs-shown sink plan run turns old new (Err (errors.NameMismatch instance index)) reading is runs shows = absurd shows
runs-shown sink plan run turns old new (Err errors.Cyclic) reading is runs shows = absurd shows
