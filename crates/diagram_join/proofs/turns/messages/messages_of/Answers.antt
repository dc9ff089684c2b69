use Rattle.std.proofs.Common.{◌≡◌, length, map, true, false, ap, sym, ◌∙◌, arith}
use Rattle.std.proofs.lemmas.List.{length-map}
use Rattle.diagrams.specs.Diagrams.{diagram_view, participant_view}
use Rattle.diagrams.specs.Building.{has_no_chart}
use Rattle.diagrams.proofs.ChartBuildLemmas.{has_chart}
use Rattle.diagram_join.specs.Joins.{join_view}
use Rattle.diagram_join.proofs.TurnsLemmas.MessageLemmas.{steps, nothing}
use Rattle.diagram_join.proofs.turns.messages.messages_of.Goals as goal

pub names_of-requires : goal.names_of-requires
names_of-requires c = omega (arith, c.len.ensures, c.deref.ensures.len, (has_chart c.len.result (sym c.has_no_chart.ensures ∙ c.if-has_no_chart.false)).1)

pub returns-then-has_no_chart : goal.returns-then-has_no_chart
returns-then-has_no_chart c =
    let d = diagram_view c.args.diagram in
    let count : c.len.result ≡ length d.participants =
    c.len.ensures ∙ c.args.diagram.participants.ok.0 ∙ sym (length-map c.args.diagram.participants.items participant_view) in
    let none : has_no_chart (length d.participants) ≡ true = ap has_no_chart (sym count) ∙ sym c.has_no_chart.ensures ∙ c.if-has_no_chart.true in
    c.new.ensures.items ∙ nothing d (map join_view c.args.joins.now) none

pub returns : goal.returns
returns c =
    let d = diagram_view c.args.diagram in
    let count : c.len.result ≡ length d.participants =
    c.len.ensures ∙ sym c.deref.ensures.len ∙ ap length c.deref.ensures.value ∙ sym (length-map c.args.diagram.participants.items participant_view) in
    let several : has_no_chart (length d.participants) ≡ false = ap has_no_chart (sym count) ∙ sym c.has_no_chart.ensures ∙ c.if-has_no_chart.false in
    let names = rw c.deref.ensures.value at c.in_ok-names.ensures in
    let collected = rw c.deref-2.ensures.value at c.in_ok-collect.ensures in
    let parts = c.into_parts-messages.ensures in
    let stay = rw (c.deref-3.ensures.value, c.deref-4.ensures.value, parts.messages, parts.left_out) at c.in_ok-stay.ensures in
    steps d (map join_view c.args.joins.now) c.in_ok-names.names c.in_ok-collect.field-0 c.in_ok-stay.stay.items several names collected stay
