use Rattle.cmd_run.proofs.showing.show_run.Goals as goal

pub returns : goal.returns
returns g c = record { result = c.write_ran.result; done = c.write_ran.ensures; exits = c.answered.ensures.status; prints = c.answered.ensures.diagnostics }
