use Rattle.cmd_explain_race.proofs.witnessing.witness_of_source.Goals as goal

pub returns : goal.returns
returns g c = record { result = c.witness_of.result; done = c.witness_of.ensures; exits = c.answered.ensures.status; prints = c.answered.ensures.diagnostics }
