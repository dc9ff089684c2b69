use Rattle.cmd_mend.proofs.showing_all.mend_all.Goals as goal

pub returns : goal.returns
returns g c = record { result = c.mend_all_text.result; done = c.mend_all_text.ensures; exits = c.answered.ensures.status; prints = c.answered.ensures.diagnostics }
