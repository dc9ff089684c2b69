use Rattle.cmd_explain_race.proofs.file_pairs.why.Goals as goal

pub returns : goal.returns
returns g c = record { result = c.why_text.result; done = c.why_text.ensures; exits = c.answered.ensures.status; prints = c.answered.ensures.diagnostics }
