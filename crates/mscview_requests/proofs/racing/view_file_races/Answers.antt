use Rattle.mscview_requests.proofs.GivenLemmas.{given_as}
use Rattle.mscview_requests.proofs.racing.view_file_races.Goals as goal

pub returns : goal.returns
returns g c = (
  c.as_slice.result.now,
  given_as (g.G.Giver.gives c.args.giver.now) 0 _ _ _ c.as_slice.ensures c.in_ok-bytes.ensures,
  (c.wanted_by-wanted.result, c.wanted_by-wanted.ensures, c.answer_strictly.ensures),
)
