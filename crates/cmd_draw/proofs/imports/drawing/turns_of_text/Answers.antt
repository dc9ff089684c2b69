use Rattle.std.proofs.Common.{sym, ◌∙◌}
use Rattle.diagrams.specs.Diagrams.{diagram_view}
use Rattle.diagram_import.specs.Importing.{options_view}
use Rattle.cmd_draw.proofs.ImportsLemmas.TurnLemmas.{turns_found}
use Rattle.cmd_draw.proofs.imports.drawing.turns_of_text.Goals as goal

pub returns : goal.returns
returns c = c.in_ok-turns.ensures ∙ sym (turns_found c.args.tool c.args.text.now (options_view c.args.options.now) (diagram_view c.in-Ok.diagram) c.in-Ok.ensures)
