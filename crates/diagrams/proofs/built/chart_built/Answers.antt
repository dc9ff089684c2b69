use Rattle.std.proofs.Common.{◌≡◌, List, length, map, sym, ap, ◌∙◌, subst}
use Rattle.chart.specs.Charts.{LineView, IsPossible, chart_lines}
use Rattle.diagrams.specs.Diagrams.{item_view}
use Rattle.diagram_labels.specs.Renaming.{renamed_view}
use Rattle.diagrams.proofs.MessagesLemmas.LinesLemmas.{length-lines}
use Rattle.diagrams.proofs.ChartBuildLemmas.{built_parts}
use Rattle.diagrams.proofs.built.chart_built.Goals as goal

pub chart_of-requires-clause-built : goal.chart_of-requires-clause-built
chart_of-requires-clause-built c =
    let named = c.in_ok-named.ensures in
    rw (c.deref.ensures.value, named.named, c.new-labels.ensures, c.len.ensures.value) c.requires.built

pub returns-clause-built : goal.returns-clause-built
returns-clause-built c =
    let named = c.in_ok-named.ensures in
    let lines = rw (c.deref.ensures.value, named.named, c.new-labels.ensures, c.len.ensures.value) at c.in_ok-chart.ensures.lines in
    let renames = rw (named.labels, c.new-labels.ensures) at c.in_ok-renamed.ensures in
    built_parts c.args.participants.now (map item_view c.args.items.now) c.args.names c.args.messages.now c.args.left_out.items c.in_ok-chart.chart (map renamed_view c.in_ok-renamed.renamed.items) lines renames

pub returns-clause-possible : goal.returns-clause-possible
returns-clause-possible c =
    let many : length c.in_ok-chart.chart ≡ c.len.result = ap (λ (ls : List LineView). length ls) c.in_ok-chart.ensures.lines ∙ length-lines _ 1 c.len.result in
    subst (λ n. IsPossible n (chart_lines c.in_ok-chart.chart)) (sym many) c.in_ok-chart.ensures.possible
