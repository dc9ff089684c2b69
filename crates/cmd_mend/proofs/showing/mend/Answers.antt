use Rattle.cmd_mend.proofs.showing.mend.Goals as goal

pub returns : goal.returns
returns g c = record { result = c.mend_text.result; done = c.mend_text.ensures; exits = c.answered.ensures.status; prints = c.answered.ensures.diagnostics }
