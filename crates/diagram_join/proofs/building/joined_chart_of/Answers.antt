use Rattle.std.proofs.Common.{◌≡◌, List, length, map, sym, ap, ◌∙◌, subst}
use Rattle.chart.specs.Charts.{LineView, IsPossible, chart_lines}
use Rattle.diagrams.proofs.MessagesLemmas.LinesLemmas.{length-lines}
use Rattle.diagrams.specs.Diagrams.{item_view}
use Rattle.diagram_labels.specs.Renaming.{renamed_view}
use Rattle.diagram_join.specs.Joined.{joined_view}
use Rattle.diagram_join.proofs.BuildingLemmas.{built_parts}
use Rattle.diagram_join.proofs.building.joined_chart_of.Goals as goal

pub chart_of-requires-clause-built : goal.chart_of-requires-clause-built
chart_of-requires-clause-built c =
    let rows = rw c.deref.ensures.value at c.in_ok-rows.ensures in
    rw (c.deref-3.ensures.value, c.in_ok-named.ensures.named, c.new-labels.ensures, c.deref-2.ensures.value, rows, c.len.ensures.value) c.requires.built

pub returns-clause-possible : goal.returns-clause-possible
returns-clause-possible c =
    let many : length c.in_ok-chart.chart ≡ c.len.result = ap (λ (ls : List LineView). length ls) c.in_ok-chart.ensures.lines ∙ length-lines _ 1 c.len.result in
    subst (λ n. IsPossible n (chart_lines c.in_ok-chart.chart)) (sym many) c.in_ok-chart.ensures.possible

pub returns-clause-built : goal.returns-clause-built
returns-clause-built c =
    let named = c.in_ok-named.ensures in
    let rows = rw c.deref.ensures.value at c.in_ok-rows.ensures in
    let lines = rw (c.deref-3.ensures.value, named.named, c.new-labels.ensures, c.deref-2.ensures.value, rows, c.len.ensures.value) at c.in_ok-chart.ensures.lines in
    let overtakings = rw (named.labels, c.new-labels.ensures, c.deref-2.ensures.value, rows) at c.in_ok-renamed.ensures in
    built_parts c.args.participants.now (map item_view c.args.items.now) c.args.lines.now (joined_view c.args.joined) c.in_ok-chart.chart (map renamed_view c.in_ok-renamed.renamed.items) lines overtakings
