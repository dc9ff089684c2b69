use Rattle.cmd_draw.proofs.exporting.export.Goals as goal

pub returns : goal.returns
returns g c = record { result = c.export_text.result; done = c.export_text.ensures; exits = c.answered.ensures.status; prints = c.answered.ensures.diagnostics }
