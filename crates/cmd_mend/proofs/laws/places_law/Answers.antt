use Rattle.cmd_mend.proofs.PlaceLemmas.{places}
use Rattle.cmd_mend.proofs.laws.places_law.Goals as goal

pub returns : goal.returns
returns c = places
