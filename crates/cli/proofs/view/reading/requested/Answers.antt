use Rattle.std.proofs.Common.{refl}
use Rattle.cli.proofs.view.reading.requested.Goals as goal

pub matches_in-requires : goal.matches_in-requires
matches_in-requires g c = refl
