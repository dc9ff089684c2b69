use Rattle.std.proofs.Common.{[]}
use Rattle.diagram_statements.specs.Statements.{statement_view}
use Rattle.diagram_import.specs.Margin.Statements.{restated}
use Rattle.diagram_import.proofs.MarginLemmas.Loops.{map_more, pushed, view_at}
use Rattle.diagram_import.proofs.margin.statements.all_restated.Goals as goal

pub loop-statement-preserved : goal.loop-statement-preserved
loop-statement-preserved c =
    map_more (restated c.args.divides c.args.text.now) statement_view _ _ [] c.args.statements.now c.loop-statement.statement-index _ (view_at statement_view c.args.statements.now c.loop-statement.statement-index _ c.loop-statement-test.true)
    (pushed statement_view _ _ c.restated.result _ c.in_ok-push.ensures.items c.restated.ensures) c.loop-statement.invariant
