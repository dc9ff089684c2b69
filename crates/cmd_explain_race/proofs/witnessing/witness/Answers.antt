use Rattle.cmd_explain_race.proofs.witnessing.witness.Goals as goal

pub returns : goal.returns
returns g c = record { result = c.witness_text.result; done = c.witness_text.ensures; exits = c.answered.ensures.status; prints = c.answered.ensures.diagnostics }
