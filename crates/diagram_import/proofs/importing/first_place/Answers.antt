use Rattle.std.proofs.Common.{sym, ◌∙◌}
use Rattle.diagram_import.proofs.TextLemmas.{place_more, place_end}
use Rattle.diagram_import.proofs.importing.first_place.Goals as goal

pub loop-kind-preserved : goal.loop-kind-preserved
loop-kind-preserved c = place_more _ _ _ _ _ c.loop-kind-test.true c.with_place-first.ensures ∙ c.loop-kind.invariant

pub returns : goal.returns
returns c = sym (place_end _ _ _ c.loop-kind-test.false) ∙ c.loop-kind.invariant
