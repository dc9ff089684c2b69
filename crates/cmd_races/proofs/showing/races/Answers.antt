use Rattle.cmd_races.proofs.showing.races.Goals as goal

pub returns : goal.returns
returns g c = record { result = c.show_text.result; done = c.show_text.ensures; exits = c.answered.ensures.status; prints = c.answered.ensures.diagnostics }
