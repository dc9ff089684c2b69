use Rattle.std.proofs.Common.{sym, ◌∙◌, arith, ap}
use Rattle.std.proofs.lemmas.List.{get_or_default}
use Rattle.log_chart.specs.NameOrder.{is_before}
use Rattle.log_chart.proofs.NameOrderLemmas.{behind_more, put_there}
use Rattle.log_chart.proofs.name_order.place_for.Goals as goal

pub loop-place-init : goal.loop-place-init
loop-place-init c = λ j y less. absurd (omega arith)

pub loop-place-preserved : goal.loop-place-preserved
loop-place-preserved c =
    behind_more c.args.hosts.now c.args.host.now c.index-hosts-place.result c.loop-place.place c.loop-place-test.true c.index-hosts-place.is (sym c.is_before.ensures ∙ c.if-is_before.false) c.loop-place.invariant

pub returns-then-is_before-clause-put : goal.returns-then-is_before-clause-put
returns-then-is_before-clause-put c =
    put_there c.args.hosts.now c.args.host.now c.loop-place.place (omega (arith, c.loop-place-test.true)) c.loop-place.invariant
    (λ y inside is. ap (is_before c.args.host.now) (is ∙ get_or_default c.args.hosts.now c.loop-place.place y c.index-hosts-place.result inside ∙ sym c.index-hosts-place.is) ∙ sym c.is_before.ensures ∙ c.if-is_before.true)

pub returns-clause-put : goal.returns-clause-put
returns-clause-put c =
    put_there c.args.hosts.now c.args.host.now _ (omega arith) (λ j y less inside is. c.loop-place.invariant j y (omega (arith, inside, c.loop-place-test.false)) inside is) (λ y inside. absurd (omega arith))
