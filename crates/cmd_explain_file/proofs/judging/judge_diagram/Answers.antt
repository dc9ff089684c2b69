use Rattle.std.proofs.Common.{refl, ap, ◌∙◌}
use Rattle.cmd_explain_file.proofs.judging.judge_diagram.Goals as goal
use Rattle.cmd_import_diagram.specs.Order.{in_order}

pub returns-in-Ok-in_order-clause-verdict : goal.returns-in-Ok-in_order-clause-verdict
returns-in-Ok-in_order-clause-verdict c =
    (c.in-Ok.built, c.in-Ok.ensures, c.in-Ok-in_order.ensures ∙ ap in_order c.deref.ensures.value, refl)
