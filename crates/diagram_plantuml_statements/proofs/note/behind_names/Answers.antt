use Rattle.diagram_plantuml_statements.proofs.NameLoops.{first_name}
use Rattle.diagram_plantuml_statements.proofs.note.behind_names.Goals as goal

pub names-init : goal.names-init
names-init c = first_name c.args.bytes.now
