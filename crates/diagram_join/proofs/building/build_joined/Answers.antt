use Rattle.std.proofs.Common.{sym, subst}
use Rattle.diagrams.specs.Diagrams.{diagram_view}
use Rattle.diagram_join.specs.Building.{joined_chart_view}
use Rattle.diagram_join.specs.Joined.{Gives}
use Rattle.diagram_join.specs.Joins.{join_view}
use Rattle.diagram_join.proofs.BuildingLemmas.{without_joins, with_joins}
use Rattle.diagram_join.proofs.building.build_joined.Goals as goal

pub returns-in-empty-clause-built : goal.returns-in-empty-clause-built
returns-in-empty-clause-built c = subst (Gives joined_chart_view c.build_alone.result) (sym (without_joins join_view (diagram_view c.args.diagram) c.args.joins.now c.in-empty.len_below)) c.build_alone.ensures.built

pub returns-in_default-clause-built : goal.returns-in_default-clause-built
returns-in_default-clause-built c = subst (Gives joined_chart_view c.build_with.result) (sym (with_joins join_view (diagram_view c.args.diagram) c.args.joins.now c.in_default.len_at_least)) c.build_with.ensures.built
