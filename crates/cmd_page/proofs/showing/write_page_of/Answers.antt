use Rattle.cmd_page.proofs.showing.write_page_of.Goals as goal

pub returns : goal.returns
returns g c = record { result = c.show_file.result; done = c.show_file.ensures; exits = c.answered.ensures.status; prints = c.answered.ensures.diagnostics }
