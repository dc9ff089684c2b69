use Rattle.std.proofs.Common.{rules}
use Rattle.std.proofs.lemmas.List.Sorted.{answers_always, IsNonDecreasingBy-from_sort_by_key}
use Rattle.diagram_join.specs.declared.turns.moments.Moment.{Moment}
use Rattle.chart.proofs.StableOrderLemmas.OrderLemmas.{by_key}
use Rattle.diagram_join.proofs.turns.moments.put_in_turn.Goals as goal

pub returns : goal.returns
returns c =
    by_key (λ (e : Moment). e.turn) _ _ (IsNonDecreasingBy-from_sort_by_key (λ (e : Moment). e.turn) _ c.in_ok-sort_by_key.ensures.sorted (λ a r q k. search rules))
    (c.sort_by_key.ensures.stable (λ (e : Moment). e.turn) (answers_always _ _ _ (λ f a r g h. search rules)))
