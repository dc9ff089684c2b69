use Rattle.std.proofs.Common.{◌≡◌, take}
use Rattle.std.specs.Prelude.{map, fold}
use Rattle.diagram_import.specs.Margin.Order.{thing_view}
use Rattle.diagram_import.specs.Margin.Placing.{placed_view, with_thing, nothing}
use Rattle.diagram_import.proofs.margin.placing.placed_things.Given as goal

abbrev pub invariant-loop-thing : goal.invariant-loop-thing
invariant-loop-thing l = placed_view l.placed ≡ fold with_thing nothing (map thing_view (take l.thing-index l.things))
