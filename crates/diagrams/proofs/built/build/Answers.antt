use Rattle.std.proofs.Common.{◌≡◌, Ok, [], length, false, ap, sym, ◌∙◌, arith}
use Rattle.std.proofs.lemmas.List.{length-map}
use Rattle.diagrams.specs.Diagrams.{diagram_view, participant_view}
use Rattle.diagrams.specs.Building.{diagram_chart_view, has_no_chart}
use Rattle.diagrams.proofs.ChartLemmas.{messages_built}
use Rattle.diagrams.proofs.ChartBuildLemmas.{as_many_names, build_steps, has_chart, length-names}
use Rattle.diagrams.proofs.built.build.Goals as goal

pub names_of-requires : goal.names_of-requires
names_of-requires c = omega (arith, c.len.ensures, c.deref.ensures.len, (has_chart c.len.result (sym c.has_no_chart.ensures ∙ c.if-has_no_chart.false)).1)

pub chart_built-requires-clause-several : goal.chart_built-requires-clause-several
chart_built-requires-clause-several c =
    let d = diagram_view c.args.diagram in
    let names = rw c.deref.ensures.value at c.in_ok-names.ensures in
    omega (arith, ap length names, length-names [] d.participants, length-map c.args.diagram.participants.items participant_view, ap length c.deref.ensures.value, c.len.ensures, c.deref.ensures.len, (has_chart c.len.result (sym c.has_no_chart.ensures ∙ c.if-has_no_chart.false)).0)

pub chart_built-requires-clause-built : goal.chart_built-requires-clause-built
chart_built-requires-clause-built c =
    let d = diagram_view c.args.diagram in
    let collected = rw c.deref-2.ensures.value at c.in_ok-collect.ensures in
    let parts = c.into_parts-messages.ensures in
    let stay = rw (c.deref-3.ensures.value, parts.messages, parts.left_out, parts.fault) at c.in_ok-messages.ensures in
    rw (c.deref-5.ensures.value, c.deref-6.ensures.value) (messages_built c.in_ok-names.names d.items d.left_out c.in_ok-collect.field-0 (c.in_ok-messages.messages.items, c.staying.new.left_out.items) collected stay)

pub returns-clause-built : goal.returns-clause-built
returns-clause-built c =
    let d = diagram_view c.args.diagram in
    let count : c.len.result ≡ length d.participants =
    c.len.ensures ∙ sym c.deref.ensures.len ∙ ap length c.deref.ensures.value ∙ sym (length-map c.args.diagram.participants.items participant_view) in
    let several : has_no_chart (length d.participants) ≡ false = ap has_no_chart (sym count) ∙ sym c.has_no_chart.ensures ∙ c.if-has_no_chart.false in
    let names = rw c.deref.ensures.value at c.in_ok-names.ensures in
    let collected = rw c.deref-2.ensures.value at c.in_ok-collect.ensures in
    let parts = c.into_parts-messages.ensures in
    let stay = rw (c.deref-3.ensures.value, parts.messages, parts.left_out, parts.fault) at c.in_ok-messages.ensures in
    let built = rw (c.deref-4.ensures.value, c.deref-5.ensures.value, c.deref-6.ensures.value) at c.in_ok-built.ensures.built in
    build_steps d c.in_ok-names.names c.in_ok-collect.field-0 (c.in_ok-messages.messages.items, c.staying.new.left_out.items) several names collected stay
    ∙ ap Ok (sym built)

pub returns-clause-named : goal.returns-clause-named
returns-clause-named c = as_many_names (diagram_chart_view c.in_ok-built.built) _ _ _ _ c.in_ok-built.ensures.built
