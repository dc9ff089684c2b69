use Rattle.std.proofs.Common.{◌≡◌, map, drop}
use Rattle.diagram_mscgen.specs.Grammar.Charts.{entity_view}
use Rattle.diagram_mscgen.specs.Reading.Entities.{with_entities, none_known}
use Rattle.diagram_mscgen.proofs.reading.entities.known_of.Given as goal

abbrev pub invariant-loop-entity : goal.invariant-loop-entity
invariant-loop-entity l = with_entities (map entity_view (drop l.entity-index l.entities)) l.known ≡ with_entities (map entity_view l.entities) none_known
