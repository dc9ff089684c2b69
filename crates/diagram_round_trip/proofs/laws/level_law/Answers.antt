use Rattle.diagram_round_trip.proofs.AtOnce.{level_at_once}
use Rattle.diagram_round_trip.proofs.laws.level_law.Goals as goal

pub returns : goal.returns
returns c = level_at_once
