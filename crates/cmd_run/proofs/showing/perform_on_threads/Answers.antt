use Rattle.cmd_run.proofs.showing.perform_on_threads.Goals as goal

pub returns : goal.returns
returns g c = record { result = c.run_text.result; done = c.run_text.ensures; exits = c.answered.ensures.status; prints = c.answered.ensures.diagnostics }
