use Rattle.std.proofs.Common.{sym, ap, ◌∙◌}
use Rattle.std.proofs.lemmas.List.{drop_all}
use Rattle.log_chart.specs.NameOrder.{name_of}
use Rattle.log_chart.proofs.NameOrderLemmas.{name_later, name_here}
use Rattle.log_chart.proofs.name_order.name_of.Goals as goal

pub loop-entry-preserved : goal.loop-entry-preserved
loop-entry-preserved c =
    name_later c.args.log.now c.loop-entry.entry-index c.args.host c.entry-item.result c.loop-entry-test.true c.entry-item.is (sym c.eq.ensures ∙ c.if-eq.false) ∙ c.loop-entry.invariant

pub returns-then-eq : goal.returns-then-eq
returns-then-eq c =
    name_here c.args.log.now c.loop-entry.entry-index c.args.host c.entry-item.result c.loop-entry-test.true c.entry-item.is (sym c.eq.ensures ∙ c.if-eq.true) ∙ c.loop-entry.invariant

pub returns : goal.returns
unfolding name_of
returns c = ap (λ l. name_of l c.args.host) (sym (drop_all c.loop-entry.entry-index c.args.log.now c.loop-entry-test.false)) ∙ c.loop-entry.invariant
