use Rattle.cmd_draw.proofs.imports.drawing.draw_of.Goals as goal

pub returns : goal.returns
returns g c = record { result = c.draw_text.result; done = c.draw_text.ensures; exits = c.answered.ensures.status; prints = c.answered.ensures.diagnostics }
