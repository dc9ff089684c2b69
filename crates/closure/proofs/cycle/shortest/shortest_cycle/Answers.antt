use Rattle.std.proofs.Common.{◌++◌, List, take, drop, Option, sym, ap, ◌∙◌, subst}
use Rattle.std.specs.Prelude.{MatchOption}
use Rattle.closure.specs.declared.chain.link.Link.{Link}
use Rattle.chart.specs.Charts.{Place, LineView, HasNoSend, chart_lines}
use Rattle.chart.specs.Order.{IsCyclic}
use Rattle.closure.specs.Cycle.Cycles.{IsShortestCycle}
use Rattle.closure.specs.Cycle.Rounds.{IsShortestRound}
use Rattle.closure.specs.declared.cycle.round.Round.{Round}
use Rattle.closure.proofs.CycleLemmas.CycleLemmas.{shortest_rotated}
use Rattle.closure.proofs.cycle.shortest.shortest_cycle.Goals as goal

pub of-requires-clause-sends : goal.of-requires-clause-sends
of-requires-clause-sends c = subst (λ (l : List LineView). (r : Place) → HasNoSend (chart_lines l) r → ⊥) (sym c.lines.ensures.value) c.requires

pub returns-in_default : goal.returns-in_default
returns-in_default c =
    let d = chart_lines c.in_ok-hearing.hearing in
    let none = subst (λ (m : Option Round). MatchOption m (IsCyclic d → ⊥) (IsShortestRound d)) c.in_default.is c.in_ok-round.ensures in
    subst (λ (l : List LineView). IsCyclic (chart_lines l) → ⊥) (c.in_ok-hearing.ensures ∙ c.lines.ensures.value) none

pub returns : goal.returns
returns c =
    let d = chart_lines c.in_ok-hearing.hearing in
    let shortest = subst (λ (m : Option Round). MatchOption m (IsCyclic d → ⊥) (IsShortestRound d)) c.in-Some.is c.in_ok-round.ensures in
    let rotated = c.in_ok-from_least.ensures.rotated in
    let links = c.in_ok-links.links.items in
    let around = c.in_ok-from_least.field-0.items in
    let is = rotated.1 ∙ ap (λ (l : List Link). drop rotated.0 l ++ take rotated.0 l) c.as_slice.ensures.value in
    subst (λ (l : List LineView). IsShortestCycle (chart_lines l) around) (c.in_ok-hearing.ensures ∙ c.lines.ensures.value)
    (shortest_rotated d c.in-Some.round rotated.0 links around shortest c.in_ok-links.ensures is c.in_ok-from_least.ensures.least)
