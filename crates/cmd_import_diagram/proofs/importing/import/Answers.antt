use Rattle.cmd_import_diagram.proofs.importing.import.Goals as goal

pub returns : goal.returns
returns g c = record { result = c.translate.result; done = c.translate.ensures; exits = c.answered.ensures.status; prints = c.answered.ensures.diagnostics }
