use Rattle.diagram_round_trip.proofs.Example.{some_level_export}
use Rattle.diagram_round_trip.proofs.laws.level_export_law.Goals as goal

pub returns : goal.returns
returns c = some_level_export
