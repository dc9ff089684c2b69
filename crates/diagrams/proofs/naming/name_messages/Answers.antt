use Rattle.std.proofs.Common.{map, sym, ◌∙◌}
use Rattle.diagrams.specs.Diagrams.{item_view}
use Rattle.diagrams.proofs.NamingLemmas.{labels_more, labels_end, named_more, named_end}
use Rattle.diagrams.proofs.naming.name_messages.Goals as goal

pub loop-message-preserved : goal.loop-message-preserved
loop-message-preserved c =
    let items = map item_view c.args.items.now in
    let added = c.in_ok-name_message.ensures in
    record {
      labels = labels_more _ _ items _ _ _ c.loop-message-test.true c.message-item.is added.labels ∙ c.loop-message.invariant.labels;
      named = named_more _ _ items _ _ _ _ _ _ c.loop-message-test.true c.message-item.is added.labels added.named c.in_ok-push.ensures.items ∙ c.loop-message.invariant.named;
    }

pub returns-clause-named : goal.returns-clause-named
returns-clause-named c = sym (named_end _ _ _ _ _ c.loop-message-test.false) ∙ c.loop-message.invariant.named

pub returns-clause-labels : goal.returns-clause-labels
returns-clause-labels c = sym (labels_end _ _ _ _ c.loop-message-test.false) ∙ c.loop-message.invariant.labels
