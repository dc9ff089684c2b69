use Rattle.cmd_run.proofs.task.perform.Goals as goal

pub returns : goal.returns
returns g c = record { result = c.do_task.result; done = c.do_task.ensures; exits = c.answered.ensures.status; prints = c.answered.ensures.diagnostics }
