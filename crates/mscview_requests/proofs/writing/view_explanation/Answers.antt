use Rattle.mscview_requests.proofs.GivenLemmas.{given_as}
use Rattle.mscview_requests.proofs.writing.view_explanation.Goals as goal

pub returns : goal.returns
returns g c = (c.as_slice.result.now, given_as (g.G.Giver.gives c.args.giver.now) 0 _ _ _ c.as_slice.ensures c.in_ok-bytes.ensures, c.explain.ensures)
