use Rattle.std.proofs.Common.{◌∙◌}
use Rattle.repair.proofs.NameLemmas.{have_given_new, have_given_old}
use Rattle.repair.proofs.naming.add_names.Goals as goal
use Rattle.repair.proofs.naming.add_names.Goals.{then-not-is_given+in_ok-give, else-not-is_given}

pub loop-event-preserved : goal.loop-event-preserved
loop-event-preserved c = elim c.if-not-is_given.branch [
  | then-not-is_given+in_ok-give w ↦ λ all have. have_given_new c.loop-event.names c.if-not-is_given.names all c.name-name.result w.in_ok-give.field-0 c.args.events.now c.loop-event.event-index c.event-item.result c.is_given.result c.loop-event-test.true c.event-item.is (c.loop-event.invariant all have) c.name-name.ensures c.is_given.ensures w.if-not-is_given.true w.in_ok-give.ensures.called (w.names-is ∙ w.in_ok-give.ensures.given)
  | else-not-is_given w ↦ λ all have. have_given_old c.loop-event.names c.if-not-is_given.names all c.name-name.result c.args.events.now c.loop-event.event-index c.event-item.result c.is_given.result c.loop-event-test.true c.event-item.is (c.loop-event.invariant all have) c.name-name.ensures c.is_given.ensures w.if-not-is_given.false w.names-is
]
