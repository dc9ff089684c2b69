use Rattle.std.proofs.Common.{List, length, None, Some, sym, ◌∙◌, subst}
use Rattle.std.proofs.lemmas.Bool.{false≢true}
use Rattle.chart.specs.Charts.{chart_lines}
use Rattle.chart.specs.Order.{Before}
use Rattle.closure.specs.Faults.{place_of}
use Rattle.closure.specs.declared.chain.link.Link.{Link}
use Rattle.closure.specs.declared.chain.reaching.Reached.{Reached}
use Rattle.closure.specs.Chain.Chains.{IsShortestChain}
use Rattle.closure.specs.Chain.Reaching.{IsTrail, IsNearest, IsChainBy}
use Rattle.closure.proofs.ChainLemmas.ChainsMade.{one_is_shortest, not_before, by_nearest_shortest}
use Rattle.closure.proofs.chain.chaining.shortest_chain.Goals as goal

pub returns-then-is_earlier_receive : goal.returns-then-is_earlier_receive
returns-then-is_earlier_receive c =
    let d = chart_lines c.args.closure.now in
    subst (λ (l : List Link). Before d (place_of c.args.earlier.now) (place_of c.args.receive.now) × IsShortestChain d (place_of c.args.earlier.now) (place_of c.args.receive.now) l) (sym c.in_ok-one_link.ensures)
    (one_is_shortest d c.in-Some.send.instance c.args.earlier.now c.args.receive.now (c.is_earlier_receive.ensures.0 c.if-is_earlier_receive.true) c.in-Some.ensures.received)

pub returns-in-None : goal.returns-in-None
returns-in-None c =
    let d = chart_lines c.args.closure.now in
    let none = subst (λ (l : List Reached). IsNearest l (place_of c.args.earlier.now) (length l) None) c.as_slice.ensures.value c.in-None.ensures in
    not_before d (place_of c.args.receive.now) (place_of c.in-Some.send) (place_of c.args.earlier.now) c.in_ok-found.found.items c.in_ok-found.ensures c.in-Some.ensures
    (λ above. false≢true (sym c.if-is_earlier_receive.false ∙ c.is_earlier_receive.ensures.1 above)) none

pub returns : goal.returns
returns c =
    let d = chart_lines c.args.closure.now in
    let e = place_of c.args.earlier.now in
    let r = place_of c.args.receive.now in
    let found = c.in_ok-found.found.items in
    let best = c.in-Some-nearest in
    let near = subst (λ (l : List Reached). IsNearest l e (length l) (Some (best.number, best.field-0-1))) c.as_slice.ensures.value best.ensures in
    let by = subst (λ (l : List Reached). IsChainBy d r l best.number e c.in_ok-links_by-in-Some-nearest.field-0.items) c.as_slice-in-Some-nearest.ensures.value
    (c.in_ok-links_by-in-Some-nearest.ensures d r (subst (λ (l : List Reached). IsTrail d r l) (sym c.as_slice-in-Some-nearest.ensures.value) c.in_ok-found.ensures.trail)) in
    by_nearest_shortest d r (place_of c.in-Some.send) e found c.in_ok-found.ensures c.in-Some.ensures
    (λ above. false≢true (sym c.if-is_earlier_receive.false ∙ c.is_earlier_receive.ensures.1 above)) best.number best.field-0-1 c.in_ok-links_by-in-Some-nearest.field-0.items near by
