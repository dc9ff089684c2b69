use Rattle.std.proofs.Common.{◌≡◌, ◌+◌, ◌-◌, ◌≤◌, ◌++◌, length, map, take}
use Rattle.chart.specs.declared.line.TheConstants.{MAX_EVENTS}
use Rattle.chart.specs.Charts.{LineView}
use Rattle.chart.specs.Events.{send_event}
use Rattle.chart.proofs.growing_line.GrowingLine.push_sends.Given as goal

abbrev pub invariant-loop-name : goal.invariant-loop-name
invariant-loop-name l =
    (l.self.line ≡ record { instance = l.fn.self.line.instance; events = l.fn.self.line.events ++ map (send_event l.to) (take l.name-index l.names) })
    × (l.fn.self.room ≤ l.self.room + l.name-index) × (length l.names - l.name-index ≤ l.self.room) × (length l.fn.self.line.events + length l.names ≤ MAX_EVENTS)
