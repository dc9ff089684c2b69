use Rattle.std.proofs.Common.{suc, length, Some, refl, ap, ◌∙◌, arith, eq-eqb}
use Rattle.chart.specs.declared.event.Event.TheVariants.{Send}
use Rattle.chart.specs.Charts.{at, chart_lines}
use Rattle.closure.proofs.ReadLemmas.{partner_within}
use Rattle.closure.proofs.LinkLemmas.{HasPassed-send, HasPassed-receive, belongs_to_next, none_left, no_more, IsNextSend-same}
use Rattle.closure.proofs.CycleLemmas.PassLemmas.{heard-send, heard-receive}
use Rattle.closure.proofs.cycle.passing.pass_event.Goals as goal

pub unreachable-requires : goal.unreachable-requires
unreachable-requires c =
    let at_r = c.event_at.ensures ∙ ap (λ x. Some x) c.in-Receive.is in
    let w = partner_within c.args.lines.now c.args.line c.args.place _ c.requires.chart c.requires.line at_r in
    c.requires.sends (at (suc c.args.line) (suc c.args.place))
    (none_left (chart_lines c.args.lines.now) (length c.args.lines.now) c.args.line c.args.place c.args.passed.now c.requires.passed c.place-sender.result c.in-Receive.from c.in-Receive.name c.in-Receive.region (omega (arith, w, c.place-sender.ensures.value)) c.place-sender.ensures.value at_r
    (no_more _ _ _ _ _ _ c.events_at-events.ensures c.at_place.ensures c.at.ensures c.in-None.ensures.next))

pub returns-in-Send-clause-passed : goal.returns-in-Send-clause-passed
returns-in-Send-clause-passed c =
    HasPassed-send (chart_lines c.args.lines.now) (length c.args.lines.now) c.args.line c.args.place c.args.passed.now c.requires.passed c.in-Send.to c.in-Send.name (c.event_at.ensures ∙ ap (λ x. Some x) c.in-Send.is)

pub returns-in-Send-clause-heard : goal.returns-in-Send-clause-heard
returns-in-Send-clause-heard c =
    heard-send c.args.lines.now (suc c.args.line) (suc c.args.place) c.in-Send.to c.args.passed.now (Send c.in-Send.to c.in-Send.name, c.event_at.ensures ∙ ap (λ x. Some x) c.in-Send.is, eq-eqb c.in-Send.to c.in-Send.to refl) c.requires.heard

pub returns-in-Some-clause-passed : goal.returns-in-Some-clause-passed
returns-in-Some-clause-passed c =
    let at_r = c.event_at.ensures ∙ ap (λ x. Some x) c.in-Receive.is in
    let w = partner_within c.args.lines.now c.args.line c.args.place _ c.requires.chart c.requires.line at_r in
    let next = IsNextSend-same _ (chart_lines c.args.lines.now (suc c.place-sender.result)) _ (suc c.args.line) _ _ c.in-Some.index c.events_at-events.ensures c.at_place.ensures c.at.ensures c.in-Some.ensures.next in
    rw c.set.ensures
    (HasPassed-receive (chart_lines c.args.lines.now) (length c.args.lines.now) c.args.line c.args.place c.args.passed.now c.requires.passed c.place-sender.result c.in-Receive.from c.in-Receive.name c.in-Receive.region (omega (arith, w, c.place-sender.ensures.value)) c.place-sender.ensures.value at_r c.in-Some.index next)

pub returns-in-Some-clause-heard : goal.returns-in-Some-clause-heard
returns-in-Some-clause-heard c =
    let at_r = c.event_at.ensures ∙ ap (λ x. Some x) c.in-Receive.is in
    let w = partner_within c.args.lines.now c.args.line c.args.place _ c.requires.chart c.requires.line at_r in
    let next = IsNextSend-same _ (chart_lines c.args.lines.now (suc c.place-sender.result)) _ (suc c.args.line) _ _ c.in-Some.index c.events_at-events.ensures c.at_place.ensures c.at.ensures c.in-Some.ensures.next in
    let belongs = belongs_to_next (chart_lines c.args.lines.now) (length c.args.lines.now) c.args.line c.args.place c.args.passed.now c.requires.passed c.place-sender.result c.in-Receive.from c.in-Receive.name c.in-Receive.region (omega (arith, w, c.place-sender.ensures.value)) c.place-sender.ensures.value at_r c.in-Some.index next in
    rw c.set.ensures
    (heard-receive c.args.lines.now (suc c.args.line) (suc c.args.place) c.place-sender.result c.in-Some.index c.args.passed.now (omega (arith, w, c.place-sender.ensures.value)) (omega arith) (omega (arith, c.in-Some.ensures.later, c.at.ensures)) belongs c.requires.heard)
