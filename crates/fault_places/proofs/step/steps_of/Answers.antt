use Rattle.std.proofs.Common.{Option, Vec, Global, sym, subst}
use Rattle.std.specs.Prelude.{MatchOption}
use Rattle.closure.specs.declared.chain.link.Link.{Link}
use Rattle.chart.specs.Charts.{chart_lines}
use Rattle.chart.specs.Order.{IsCyclic}
use Rattle.closure.specs.Cycle.Cycles.{IsShortestCycle}
use Rattle.fault_places.specs.NamedCycles.{HaveNames}
use Rattle.fault_places.proofs.NameLemmas.{links_have_names}
use Rattle.fault_places.proofs.step.steps_of.Goals as goal

pub all_of-requires : goal.all_of-requires
all_of-requires c =
    let d = chart_lines c.args.chart.now in
    let found = subst (λ (m : Option (Vec Link Global)). MatchOption m (IsCyclic d → ⊥) (λ links. IsShortestCycle d links.items)) c.in-Some.is c.in_ok-links.ensures in
    subst (HaveNames c.args.names.now) (sym c.as_slice.ensures.value) (links_have_names c.args.chart.now c.args.names.now found.cycle.lead.0 found.cycle.lead.0 c.in-Some.links.items c.requires.names found.cycle.lead.1)
