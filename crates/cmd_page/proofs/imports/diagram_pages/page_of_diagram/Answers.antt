use Rattle.cmd_page.proofs.imports.diagram_pages.page_of_diagram.Goals as goal

pub returns : goal.returns
returns g c = record { result = c.show.result; done = c.show.ensures; exits = c.answered.ensures.status; prints = c.answered.ensures.diagnostics }
