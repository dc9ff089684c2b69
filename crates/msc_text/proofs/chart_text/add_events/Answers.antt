use Rattle.msc_text.proofs.EventLoops.{come_at, come_all, come_more, come_stops, come_ends}
use Rattle.msc_text.proofs.chart_text.add_events.Goals as goal

pub returns-in_err-add_event_lines : goal.returns-in_err-add_event_lines
returns-in_err-add_event_lines g c =
    let m = c.event-item.result in
    let come = come_at c.args.events.now c.loop-event.event-index m c.loop-event-test.true c.event-item.is c.loop-event.invariant in
    come_stops m c.from_residual.result c.from_residual.ensures.0 come c.in_err-add_event_lines.ensures

pub loop-event-preserved : goal.loop-event-preserved
loop-event-preserved g c =
    let m = c.event-item.result in
    let come = come_at c.args.events.now c.loop-event.event-index m c.loop-event-test.true c.event-item.is c.loop-event.invariant in
    rw c.region-before.ensures (come_more m come c.in_ok-add_event_lines.ensures)

pub returns : goal.returns
returns g c =
    let come = come_all c.args.events.now c.loop-event.event-index c.loop-event-test.false c.loop-event.invariant in
    come_ends c.add_ending.new.text c.add_ending.result come c.add_ending.ensures
