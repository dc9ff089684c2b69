use Rattle.std.proofs.Common.{subst}
use Rattle.mscview_requests.specs.Given.{given_in}
use Rattle.mscview_requests.proofs.giving.first_in.Goals as goal

pub returns : goal.returns
returns g c = subst (λ file. g.G.Giver.gives c.args.giver.now 0 file (given_in c.bytes_in.result)) c.file_named.ensures c.bytes_in.ensures
