use Rattle.std.proofs.Common.{rules, ap, ◌∙◌}
use Rattle.std.specs.Prelude.{map}
use Rattle.std.proofs.lemmas.List.Sorted.{answers_always, IsNonDecreasingBy-from_sort_by_key}
use Rattle.diagram_import.specs.Margin.Order.{ThingView, thing_view}
use Rattle.diagram_import.specs.declared.margin.order.Thing.{Thing}
use Rattle.chart.proofs.StableOrderLemmas.OrderLemmas.{by_key}
use Rattle.chart.proofs.StableOrderLemmas.MappedLemmas.{order_mapped}
use Rattle.diagram_import.proofs.margin.order.put_in_order.Goals as goal

pub returns : goal.returns
returns c =
    ap (map thing_view) (by_key (λ (e : Thing). e.line) _ _ (IsNonDecreasingBy-from_sort_by_key (λ (e : Thing). e.line) _ c.in_ok-sort_by_key.ensures.sorted (λ a r q k. search rules))
    (c.sort_by_key.ensures.stable (λ (e : Thing). e.line) (answers_always _ _ _ (λ f a r g h. search rules)))) ∙ order_mapped thing_view (λ (t : ThingView). t.line) _
