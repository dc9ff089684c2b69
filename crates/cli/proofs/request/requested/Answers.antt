use Rattle.std.proofs.Common.{refl}
use Rattle.cli.proofs.RequestLemmas.{requests, refused}
use Rattle.cli.proofs.request.requested.Goals as goal

pub matches_in-requires : goal.matches_in-requires
matches_in-requires g c = refl

pub returns-in-Some : goal.returns-in-Some
returns-in-Some g c = requests _ _ _ c.in-Ok.ensures c.in-Some.ensures

pub returns-in-Ok : goal.returns-in-Ok
returns-in-Ok g c = requests _ _ _ c.in-Ok.ensures c.in-None.ensures

pub returns : goal.returns
returns g c = refused _ _ c.in-Err.ensures
