use Rattle.diagram_round_trip.proofs.Imported.{mscgen_round_trip}
use Rattle.diagram_round_trip.proofs.laws.mscgen_law.Goals as goal

pub returns : goal.returns
returns c = mscgen_round_trip
