use Rattle.std.proofs.Common.{List, ℕ, Some, sym, ap, ap₂, subst, ◌∙◌, ◌≢◌, arith}
use Rattle.std.proofs.lemmas.List.{length-map}
use Rattle.chart.specs.Events.{partner_of}
use Rattle.chart.specs.declared.event.Event.{Event}
use Rattle.log_chart.specs.Charts.ChartLines.{event_of}
use Rattle.log_chart.proofs.ChartsLemmas.WalkLemmas.{events_end, event_here, events_so_far}
use Rattle.log_chart.proofs.charts.chart_lines.line_of.Goals as goal

pub push-requires-clause-apart : goal.push-requires-clause-apart
push-requires-clause-apart c =
    let event = event_of c.args.log.now in
    let n = c.loop-item.item-index in
    subst (λ q. partner_of c.event_of.result ≢ q) (sym c.loop-item.invariant.own)
    (c.requires.line.partners n c.event_of.result (event_here event c.args.items.now n c.item-item.result c.loop-item-test.true c.item-item.is ∙ ap (λ m. Some m) (sym c.event_of.ensures.value)))

pub push-requires-clause-room : goal.push-requires-clause-room
push-requires-clause-room c =
    let so_far = events_so_far (event_of c.args.log.now) c.loop-item.line.events c.args.items.now c.loop-item.item-index c.loop-item-test.true c.loop-item.invariant.so_far in
    omega (arith, so_far, c.requires.line.short, length-map c.args.items.now (event_of c.args.log.now), c.loop-item-test.true)

pub returns : goal.returns
returns c =
    ap₂ (λ (p : ℕ) (events : List Event). record { instance = p; events = events }) c.loop-item.invariant.own
    (sym (events_end (event_of c.args.log.now) c.loop-item.line.events c.args.items.now c.loop-item.item-index c.loop-item-test.false) ∙ c.loop-item.invariant.so_far)
