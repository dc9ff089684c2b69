use Rattle.std.proofs.Common.{[], ◌∷◌, ◌++◌, ap, ◌∙◌}
use Rattle.picture_parts.specs.Columns.Placing.{next_column}
use Rattle.picture_parts.proofs.ColumnsLemmas.Walks.{columns_next}
use Rattle.picture_parts.proofs.columns.placing.columns_for.Goals as goal

pub loop-instance-preserved : goal.loop-instance-preserved
loop-instance-preserved c =
    let column = c.next_column-column.ensures ∙ ap (λ columns. next_column c.args.plan.now columns c.instance-item.result) c.as_slice.ensures.value in
    let pushed = c.in_ok-push.ensures.items ∙ ap (λ x. c.loop-instance.columns.items ++ x ∷ []) column in
    columns_next c.args.plan.now c.loop-instance.columns.items c.push.new.self.items _ c.args.instances.now c.loop-instance.instance-index c.instance-item.result c.loop-instance-test.true c.instance-item.is pushed c.loop-instance.invariant
