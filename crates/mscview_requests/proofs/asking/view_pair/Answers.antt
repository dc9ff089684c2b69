use Rattle.mscview_requests.proofs.GivenLemmas.{given_as}
use Rattle.mscview_requests.proofs.asking.view_pair.Goals as goal

pub returns : goal.returns
returns g c = (c.in_ok-asked.asked, c.as_slice.result.now, c.in_ok-asked.ensures, given_as (g.G.Giver.gives c.args.giver.now) 0 _ _ _ c.as_slice.ensures c.in_ok-bytes.ensures, c.answer_strictly.ensures)
