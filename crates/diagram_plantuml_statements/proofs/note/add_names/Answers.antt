use Rattle.std.proofs.Common.{map, arith}
use Rattle.diagram_statements.specs.Statements.{statement_view}
use Rattle.diagram_plantuml_statements.proofs.NameLoops.{first_named, next_named}
use Rattle.diagram_plantuml_statements.proofs.note.add_names.Goals as goal

pub names-init : goal.names-init
names-init c = first_named c.args.place (map statement_view c.args.statements.now.items) c.args.bytes.now

pub names-preserved : goal.names-preserved
names-preserved c =
    next_named c.args.place (map statement_view c.args.statements.now.items) _ _ _ c.args.bytes.now _ _ _ c.names.invariant c.in-Some.ensures.name c.in-Some-behind_comma.ensures.rest
    c.in_ok-add_name.ensures (omega (arith, c.in-Some.ensures.shorter, c.in-Some-behind_comma.ensures.shorter))
