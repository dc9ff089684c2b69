use Rattle.cmd_races.proofs.schedules.showing.lucky_races.Goals as goal

pub returns : goal.returns
returns g c = record { result = c.show_luck.result; done = c.show_luck.ensures; exits = c.answered.ensures.status; prints = c.answered.ensures.diagnostics }
