use Rattle.cmd_races.proofs.imports.showing.races_of.Goals as goal

pub returns : goal.returns
returns g c = record { result = c.show.result; done = c.show.ensures; exits = c.answered.ensures.status; prints = c.answered.ensures.diagnostics }
