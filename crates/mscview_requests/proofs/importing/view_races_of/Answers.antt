use Rattle.std.proofs.Common.{refl, sym, subst, inr}
use Rattle.diagram_import.specs.Importing.{options_view}
use Rattle.mscview_requests.specs.Readings.{read_view}
use Rattle.mscview_requests.specs.Wanted.{IsReading}
use Rattle.mscview_requests.proofs.GivenLemmas.{given_as}
use Rattle.mscview_requests.proofs.importing.view_races_of.Goals as goal

pub returns-then-asked : goal.returns-then-asked
returns-then-asked g c = ((refl, refl), inr (read_view c.in_ok-read.read, c.in_ok-read.ensures, inr (_, c.in_ok-bytes.ensures, c.if-asked.true, refl)))

pub returns : goal.returns
returns g c = (
  c.if-asked.false,
  (
    (c.in_ok-read.read.tool, options_view c.options_of-options.result),
    c.as_slice.result.now,
    subst (λ o. IsReading c.args.reading.now (c.in_ok-read.read.tool, o)) (sym c.options_of-options.ensures) c.in_ok-read.ensures,
    given_as (g.G.Giver.gives c.args.giver.now) 0 _ _ _ c.as_slice.ensures c.in_ok-bytes.ensures,
    (c.wanted_by-wanted.result, c.wanted_by-wanted.ensures, c.races_of.ensures),
  ),
)
