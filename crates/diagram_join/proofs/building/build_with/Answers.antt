use Rattle.std.proofs.Common.{◌≡◌, Ok, length, map, false, ap, sym, ◌∙◌, arith}
use Rattle.std.proofs.lemmas.List.{length-map}
use Rattle.diagrams.specs.Diagrams.{diagram_view, participant_view}
use Rattle.diagrams.specs.Building.{has_no_chart}
use Rattle.diagrams.proofs.ChartBuildLemmas.{has_chart}
use Rattle.diagram_join.specs.Building.{joined_chart_view}
use Rattle.diagram_join.specs.Joined.{joined_view}
use Rattle.diagram_join.specs.Joins.{join_view}
use Rattle.diagram_join.proofs.BuildingLemmas.{as_many_names, build_steps}
use Rattle.diagram_join.proofs.PossibleLemmas.{rows_built, several_joined}
use Rattle.diagram_join.proofs.building.build_with.Goals as goal

pub names_of-requires : goal.names_of-requires
names_of-requires c = omega (arith, c.len.ensures, c.deref.ensures.len, (has_chart c.len.result (sym c.has_no_chart.ensures ∙ c.if-has_no_chart.false)).1)

pub joined_chart_of-requires-clause-several : goal.joined_chart_of-requires-clause-several
joined_chart_of-requires-clause-several c = several_joined _ _ (joined_view c.in_ok-joined.joined) c.in_ok-check.ensures

pub joined_chart_of-requires-clause-built : goal.joined_chart_of-requires-clause-built
joined_chart_of-requires-clause-built c =
    let d = diagram_view c.args.diagram in
    let collected = rw c.deref-2.ensures.value at c.in_ok-collect.ensures in
    let parts = c.into_parts-messages.ensures in
    let joined = rw (c.deref-3.ensures.value, c.deref-4.ensures.value, parts.messages, parts.left_out) at c.in_ok-joined.ensures in
    let checked = rw (c.deref-5.ensures.value, parts.messages, parts.fault) at c.in_ok-check.ensures in
    rw c.deref-7.ensures.value (rows_built d.participants d.items c.in_ok-lines.lines (map join_view c.args.joins.now) d.left_out c.in_ok-collect.field-0 (joined_view c.in_ok-joined.joined) collected joined checked)

pub returns-clause-built : goal.returns-clause-built
returns-clause-built c =
    let d = diagram_view c.args.diagram in
    let count : c.len.result ≡ length d.participants =
    c.len.ensures ∙ sym c.deref.ensures.len ∙ ap length c.deref.ensures.value ∙ sym (length-map c.args.diagram.participants.items participant_view) in
    let several : has_no_chart (length d.participants) ≡ false = ap has_no_chart (sym count) ∙ sym c.has_no_chart.ensures ∙ c.if-has_no_chart.false in
    let names = rw c.deref.ensures.value at c.in_ok-lines.ensures in
    let collected = rw c.deref-2.ensures.value at c.in_ok-collect.ensures in
    let parts = c.into_parts-messages.ensures in
    let joined = rw (c.deref-3.ensures.value, c.deref-4.ensures.value, parts.messages, parts.left_out) at c.in_ok-joined.ensures in
    let checked = rw (c.deref-5.ensures.value, parts.messages, parts.fault) at c.in_ok-check.ensures in
    let built = rw (c.deref-6.ensures.value, c.deref-7.ensures.value) at c.in_ok-built.ensures.built in
    build_steps d (map join_view c.args.joins.now) c.in_ok-lines.lines c.in_ok-collect.field-0 (joined_view c.in_ok-joined.joined) several names collected joined checked
    ∙ ap Ok (sym built)

pub returns-clause-named : goal.returns-clause-named
returns-clause-named c = as_many_names (joined_chart_view c.in_ok-built.built) _ _ _ _ c.in_ok-built.ensures.built
