use Rattle.mscview_requests.proofs.GivenLemmas.{given_as}
use Rattle.mscview_requests.proofs.writing.view_page.Goals as goal

pub returns : goal.returns
returns g c = (
  c.as_slice.result.now,
  given_as (g.G.Giver.gives c.args.giver.now) 0 _ _ _ c.as_slice.ensures c.in_ok-bytes.ensures,
  (c.file_title-title.result.now, c.file_title-title.ensures, c.answer_strictly.ensures),
)
