use Rattle.std.proofs.Common.{◌≤◌, sym, subst}
use Rattle.chart.specs.declared.instance.EventNo.{EventNo}
use Rattle.chart.specs.declared.line.TheConstants.{MAX_EVENTS}
use Rattle.repair.proofs.moves.moved_events.Goals as goal

pub moved_event-requires : goal.moved_event-requires
moved_event-requires c =
    subst (λ (e : EventNo). e.index ≤ MAX_EVENTS) (sym c.event-item.is) (c.requires c.loop-event.event-index c.event-item.result c.loop-event-test.true)
