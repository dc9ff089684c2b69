use Rattle.cmd_run.proofs.ShownRuns.{runs-shown}
use Rattle.cmd_run.proofs.showing.run_text.Goals as goal

pub returns-in-Ok : goal.returns-in-Ok
returns-in-Ok g c = runs-shown _ _ _ _ _ _ _ _ c.in_ok-schedule.ensures c.in-Ok.ensures.runs c.write_run.ensures
