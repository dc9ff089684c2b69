use Rattle.std.proofs.Common.{sym, subst}
use Rattle.diagram_import.specs.Importing.{options_view}
use Rattle.mscview_requests.specs.Wanted.{IsReading}
use Rattle.mscview_requests.proofs.GivenLemmas.{given_as}
use Rattle.mscview_requests.proofs.importing.view_tool_page.Goals as goal

pub returns : goal.returns
returns g c = (
  (c.in_ok-read.read.tool, options_view c.options_of-options.result),
  c.as_slice.result.now,
  subst (λ o. IsReading c.args.wanted.now.reading (c.in_ok-read.read.tool, o)) (sym c.options_of-options.ensures) c.in_ok-read.ensures,
  given_as (g.G.Giver.gives c.args.giver.now) 0 _ _ _ c.as_slice.ensures c.in_ok-bytes.ensures,
  (c.file_title-title.result.now, c.file_title-title.ensures, c.page_of_diagram.ensures),
)
