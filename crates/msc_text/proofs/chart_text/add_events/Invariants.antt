use Rattle.std.proofs.Common.{drop}
use Rattle.msc_text.specs.ChartText.{events_text}
use Rattle.msc_text.proofs.EventLoops.{HasCome}
use Rattle.msc_text.proofs.chart_text.add_events.Given as goal

-- the events so far were added
abbrev pub invariant-loop-event : goal.invariant-loop-event
invariant-loop-event g l =
    HasCome g.W.Out.sink l.initial.text l.text l.names l.before (drop l.event-index l.events) (events_text l.names 0 l.events)
