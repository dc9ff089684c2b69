use Rattle.std.proofs.Common.{◌++◌, map}
use Rattle.diagram_statements.specs.Statements.{statement_view}
use Rattle.diagram_mermaid.specs.Notes.{name_statements}
use Rattle.diagram_mermaid.proofs.NameLoops.{one_name, last_name}
use Rattle.diagram_mermaid.proofs.note.add_names.Goals as goal

pub names-preserved : goal.names-preserved
names-preserved c =
    one_name c.args.place _ _ (map statement_view c.args.statements.now.items ++ name_statements c.args.place c.args.names.now) _ _ _ c.names.invariant c.in-Some.ensures.name c.in_ok-add_name.ensures

pub returns : goal.returns
returns c =
    last_name c.args.place _ _ (map statement_view c.args.statements.now.items ++ name_statements c.args.place c.args.names.now) _ c.names.invariant c.in_default.ensures.name c.in_ok-add_name-2.ensures
